use Rattle.fbl_judge.proofs.Common.{Entry, List, ap, arith, at, log_of, nat_tests, suc, subst, length, ◌<◌, ◌-◌, ◌≡◌, ◌≤◌, ◌∙◌}
use Rattle.fbl_runs.specs.Clocks.{StandsAt, cut_of}
use Rattle.fbl_runs.specs.Logs.{RunParts}
use Rattle.fbl_judge.proofs.MomentLaws.{depends_last}
use Rattle.fbl_judge.proofs.pasts.Pasts.depends_at.Goals as goal

pub returns : goal.returns
returns c i stands =
    let same : c.self.inside.index ≡ c.args.self.now.entries = c.self.invariant.index ∙ ap (λ (run : RunParts). run.entries) c.self.view_is in
    let last = subst (λ (es : List Entry). StandsAt es c.place-last.result (at c.args.member (c.count-count.result - 1))) same c.place-last.ensures in
    let some : 0 < c.count-count.result = grind (arith, nat_tests, c.if-count-eq0.false) in
    let count : cut_of c.args.moment.now c.args.member ≡ suc (c.count-count.result - 1) = (let e = c.count-count.ensures in omega (arith, e, some)) in
    let within : suc (c.count-count.result - 1) ≤ length (log_of c.args.self.now.entries c.args.member) = (let w = c.requires.within c.args.member in omega (arith, w, count)) in
    let depends = depends_last (log_of c.args.self.now.entries) (cut_of c.args.moment.now) i c.args.member (c.count-count.result - 1) count within in
    let iff = c.precedes.ensures i (at c.args.member (c.count-count.result - 1)) stands last in
    (λ h. depends.1 (iff.0 h), λ d. iff.1 (depends.0 d))
