use Rattle.fbl_turns.proofs.Common.{ℕ, ◌<◌, MayTake}
use Rattle.fbl_turns.proofs.counted_group.CountedGroup.take_first.Given as goal

abbrev pub invariant-loop-number : goal.invariant-loop-number
invariant-loop-number g l = (from : ℕ) → from < l.number → ¬ (MayTake l.self.group l.to from)
