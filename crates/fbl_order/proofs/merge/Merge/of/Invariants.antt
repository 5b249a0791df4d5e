use Rattle.fbl_order.proofs.Common.{◌-◌, length, Merges}
use Rattle.fbl_order.proofs.merge.Merge.of.Given as goal

abbrev pub invariant-loop-place : goal.invariant-loop-place
invariant-loop-place l = Merges l.n l.entries l.merge

abbrev pub decreases-loop-place : goal.decreases-loop-place
decreases-loop-place l = length l.entries - length l.merge.places.items
