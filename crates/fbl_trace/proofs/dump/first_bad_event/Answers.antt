use Rattle.fbl_trace.proofs.Common.{add-one, arith, refl, slice_get_read, take_all, take-take}
use Rattle.fbl_trace.proofs.Gets.{slice_get-take, take-more}
use Rattle.fbl_trace.proofs.RulesLaws.{WellFormed-none, WellFormed-push}
use Rattle.fbl_trace.proofs.dump.first_bad_event.Goals as goal

pub loop-place-init : goal.loop-place-init
loop-place-init c = record { counted = c.in_ok-counts.ensures; obeyed = WellFormed-none _ }

pub returns-in-Some-clause-place : goal.returns-in-Some-clause-place
returns-in-Some-clause-place c = (
  λ i below e at. rw (take-take i c.loop-place.place c.args.events.now (omega (arith, below))) at
      (c.loop-place.invariant.obeyed i e (slice_get-take c.args.events.now c.loop-place.place i e below at)),
  λ may. c.in-Some.ensures.verdict (may _ (slice_get_read _ _ _ _ refl c.loop-place-test.true c.index-events-place.is)),
)

pub loop-place-preserved : goal.loop-place-preserved
loop-place-preserved c = rw (add-one, take-more c.args.events.now c.loop-place.place _ (slice_get_read _ _ _ _ refl c.loop-place-test.true c.index-events-place.is))
    (record { counted = c.in_ok-add.ensures; obeyed = WellFormed-push _ _ _ c.loop-place.invariant.obeyed c.in_default.ensures.verdict })

pub returns-clause-place : goal.returns-clause-place
returns-clause-place c = rw (take_all _ _ c.loop-place-test.false) at c.loop-place.invariant.obeyed

pub returns-in-Some-clause-fault : goal.returns-in-Some-clause-fault
returns-in-Some-clause-fault c = (slice_get_read _ _ _ _ refl c.loop-place-test.true c.index-events-place.is, c.in-Some.ensures.rule)
