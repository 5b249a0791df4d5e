use Rattle.fbl_judge.proofs.Common.{arith, subst, sym, true, ◌≡◌, ◌↔◌, Members}
use Rattle.std.specs.Cmp.{nat_cmp_total}
use Rattle.std.specs.FinSet as set
use Rattle.fbl_runs.specs.Clocks.{cut_of}
use Rattle.fbl_runs.specs.Logs.{run_of}
use Rattle.fbl_judge.specs.Unsafe.{IsLeftOrphanAt}
use Rattle.fbl_judge.proofs.check.orphans_at.Goals as goal

pub returns : goal.returns
returns c i stands q = subst (λ (s : Members). (set.contains s q ≡ true) ↔ IsLeftOrphanAt (run_of c.args.pasts.now) (cut_of c.args.moment.now) c.args.strike i q) (sym c.without.ensures) (
    let left_of = set.contains-difference nat_cmp_total c.dependents-dependents.result c.args.strike q in
    let depends = c.dependents-dependents.ensures i stands q in
    grind (arith, left_of, depends))
