use Rattle.fbl_trace.proofs.Common.{◌≡◌, ℕ, ◌<◌, IsBad, number_before}
use Rattle.fbl_trace.proofs.plan.plan_fault.Given as goal

abbrev pub invariant-loop-place : goal.invariant-loop-place
invariant-loop-place g l = (l.before ≡ number_before l.plan l.place) × ((k : ℕ) → k < l.place → ¬ (IsBad l.plan l.config k))
