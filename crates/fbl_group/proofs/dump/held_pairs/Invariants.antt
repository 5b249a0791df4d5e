use Rattle.fbl_group.proofs.Common.{◌≡◌, ◌++◌, drop, pairs_from}
use Rattle.fbl_group.proofs.dump.held_pairs.Given as goal

abbrev pub invariant-loop-place : goal.invariant-loop-place
invariant-loop-place g l = l.held.items ++ pairs_from l.place (drop l.place l.members) ≡ pairs_from 0 l.members
