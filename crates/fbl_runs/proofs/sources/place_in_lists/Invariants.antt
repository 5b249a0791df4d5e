use Rattle.std.proofs.Common.{◌≡◌, ◌+◌, sum, take}
use Rattle.fbl_runs.proofs.sources.place_in_lists.Given as goal

abbrev pub invariant-loop-list : goal.invariant-loop-list
invariant-loop-list l = sum (take l.list l.lengths) + l.left ≡ l.place
