use Rattle.fbl_group.proofs.Common.{◌≡◌, ℕ, ◌<◌, false, contains}
use Rattle.fbl_group.proofs.group.Group.is_last_down.Given as goal

abbrev pub invariant-loop-number : goal.invariant-loop-number
invariant-loop-number g l = (p : ℕ) → l.fn.member < p → p < l.number → contains l.down p ≡ false
