use Rattle.fbl_trace.proofs.Common.{ℕ, List, arith, refl, slice_get_read, Determinant, Mark, FitsPair}
use Rattle.fbl_trace.specs.Dumps.{BreaksPair}
use Rattle.fbl_trace.specs.declared.fault.PairRule.{PairRule}
use Rattle.fbl_trace.specs.declared.fault.PairRule.TheVariants as rules
use Rattle.fbl_trace.proofs.Gets.{each_all, each_more}
use Rattle.fbl_trace.proofs.dump.first_bad_pair.Goals as goal

unfit : (n : ℕ) (t : List Mark) (place holder : ℕ) (d : Determinant) (rule : PairRule) → BreaksPair n t place holder d rule → ¬ (FitsPair n t place holder d)
unfit n t place holder d rules.TooMany breaks fits = omega (arith, breaks, fits.0)
unfit n t place holder d (rules.Outside outsider) breaks fits = omega (arith, breaks.1.2, fits.1)
unfit n t place holder d (rules.NoReceipt receipt) breaks fits = breaks.3 (rw breaks.2 fits.2)

pub loop-place-preserved : goal.loop-place-preserved
loop-place-preserved c =
    each_more _ c.args.raw.now.held.items c.loop-place.place c.pair-item.result (rw c.deref-pair-items.ensures.value at c.loop-place-test.true)
    (rw c.deref-pair-items.ensures.value at c.pair-item.is) c.in_default.ensures c.loop-place.invariant

pub returns-in-Some-clause-place : goal.returns-in-Some-clause-place
returns-in-Some-clause-place c = (
  c.loop-place.invariant,
  λ held. unfit _ _ _ _ _ c.in-Some.rule c.in-Some.ensures (held _ (rw c.deref-pair-items.ensures.value at (slice_get_read _ _ _ _ refl c.loop-place-test.true c.pair-item.is))),
)

pub returns-in-Some-clause-fault : goal.returns-in-Some-clause-fault
returns-in-Some-clause-fault c = ((rw c.deref-pair-items.ensures.value at (slice_get_read _ _ _ _ refl c.loop-place-test.true c.pair-item.is)), c.in-Some.ensures)

pub returns-clause-place : goal.returns-clause-place
returns-clause-place c = each_all _ c.args.raw.now.held.items c.loop-place.place (rw c.deref-pair-items.ensures.value at c.loop-place-test.false) c.loop-place.invariant
