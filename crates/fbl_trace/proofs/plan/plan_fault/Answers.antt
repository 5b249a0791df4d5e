use Rattle.fbl_trace.proofs.Common.{ℕ, ◌≡◌, ◌<◌, Settings, IsBad, below_more, arith, get_or, get_or-map, length, number_before, refl, slice_get_read}
use Rattle.fbl_trace.specs.Breaches.{BreaksEntry}
use Rattle.fbl_trace.proofs.plan.plan_fault.Goals as goal

bad : {N : Type 0} (plan : _) (config : Settings N) (place : ℕ) (e : _) (rule : _) → place < length plan → e ≡ get_or plan place e
    → BreaksEntry config place (number_before plan place) e rule → IsBad plan config place
bad plan config place e rule below is breaks = grind (arith, get_or-map, below, is, breaks)

pub loop-place-preserved : goal.loop-place-preserved
loop-place-preserved g c = grind (arith, get_or-map, below_more)

pub returns-in-Some : goal.returns-in-Some
returns-in-Some g c =
    let breaks = (rw c.loop-place.invariant.0 at c.in-Some.ensures) in
    let is_bad = bad c.args.plan.now c.args.config.now _ c.index-plan-place.result c.in-Some.rule c.loop-place-test.true c.index-plan-place.is breaks in
    ((c.loop-place-test.true, is_bad, c.loop-place.invariant.1), slice_get_read _ _ _ _ refl c.loop-place-test.true c.index-plan-place.is, breaks)
