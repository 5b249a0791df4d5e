-- of the members so far there are as many
use Rattle.fbl_judge.proofs.Common.{ℕ, ◌<◌, ◌≡◌}
use Rattle.std.proofs.Common.{slice_index}
use Rattle.fbl_judge.proofs.check.least_unlike.Given as goal

abbrev pub invariant-loop-number : goal.invariant-loop-number
invariant-loop-number l = (q : ℕ) → q < l.number → slice_index l.first.of_members q ≡ slice_index l.other.of_members q
