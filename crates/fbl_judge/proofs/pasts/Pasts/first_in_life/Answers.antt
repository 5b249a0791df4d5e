use Rattle.fbl_judge.proofs.Common.{Dependence, Entry, List, Precedes, ap, arith, at, cases_lt, false≢true, inl, inr, log_of, sym, subst, ℕ, ◌≡◌, ◌∙◌}
use Rattle.std.proofs.Common.{◌+◌, ◌-◌, ◌/◌}
use Rattle.fbl_runs.specs.Clocks.{StandsAt}
use Rattle.fbl_runs.specs.Logs.{RunParts}
use Rattle.fbl_runs.proofs.LeadsLaws.{there_at}
use Rattle.fbl_judge.proofs.LifeLaws.{depends_on}
use Rattle.fbl_judge.proofs.pasts.Pasts.first_in_life.Goals as goal

pub loop-first-init : goal.loop-first-init
loop-first-init c = record {
  after = omega arith;
  within = (let order = c.requires.life.order in (order, omega arith, order));
  none = λ i stands k after before. absurd (omega (arith, after, before));
  some = λ i stands less. absurd (omega (arith, less));
}

pub loop-first-preserved : goal.loop-first-preserved
loop-first-preserved c =
    let same : c.self.inside.index ≡ c.args.self.now.entries = c.self.invariant.index ∙ ap (λ (run : RunParts). run.entries) c.self.view_is in
    let w = c.loop-first.invariant.within in
    let t = c.loop-first-test.true in
    let a = c.loop-first.invariant.after in
    let there = subst (λ (es : List Entry). StandsAt es c.place-place.result (at c.args.member (c.loop-first.first + (c.loop-first.end - c.loop-first.first) / 2))) same c.place-place.ensures in
    let here = there_at c.args.self.now.entries c.place-place.result (at c.args.member (c.loop-first.first + (c.loop-first.end - c.loop-first.first) / 2)) there in
    record {
      after = omega (arith, a, t);
      within = (omega (arith, w, t), w.1, omega (arith, w, t));
      none = λ i stands k after before p. elim (cases_lt k c.loop-first.first) [
        | inl less ↦ c.loop-first.invariant.none i stands k after less p
        | inr upto ↦ false≢true (sym c.if-precedes.false ∙ (c.precedes.ensures i (at c.args.member (c.loop-first.first + (c.loop-first.end - c.loop-first.first) / 2)) stands there).1
            (depends_on (log_of c.args.self.now.entries) i c.args.member c.args.start c.args.top k (c.loop-first.first + (c.loop-first.end - c.loop-first.first) / 2) c.requires.life after (omega (arith, before)) (omega (arith, w, t)) p here.0 here.1))
      ];
      some = c.loop-first.invariant.some;
    }

pub returns-then-first-top : goal.returns-then-first-top
returns-then-first-top c i stands =
    let t = c.loop-first-test.false in
    let w = c.loop-first.invariant.within in
    let less = c.if-first-top.true in
    let end : c.loop-first.end ≡ c.loop-first.first = omega (arith, t, w) in
    record {
      after = c.loop-first.invariant.after;
      within = less;
      depends = subst (λ (k : ℕ). Precedes Dependence (log_of c.args.self.now.entries) i (at c.args.member k)) end (c.loop-first.invariant.some i stands (omega (arith, end, less)));
      first = λ l after before. c.loop-first.invariant.none i stands l after before;
    }
