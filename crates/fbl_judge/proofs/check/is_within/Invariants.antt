-- of the members so far no more have come
use Rattle.fbl_judge.proofs.Common.{ℕ, ◌<◌, ◌≤◌}
use Rattle.std.proofs.Common.{slice_index}
use Rattle.fbl_runs.specs.Clocks.{cut_of}
use Rattle.fbl_judge.proofs.check.is_within.Given as goal

abbrev pub invariant-loop-number : goal.invariant-loop-number
invariant-loop-number l = (q : ℕ) → q < l.number → cut_of l.moment q ≤ slice_index l.view.tops q
