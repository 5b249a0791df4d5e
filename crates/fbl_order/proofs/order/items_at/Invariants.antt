use Rattle.fbl_order.proofs.Common.{◌≡◌, items_at, take}
use Rattle.fbl_order.proofs.order.items_at.Given as goal

abbrev pub invariant-loop-place : goal.invariant-loop-place
invariant-loop-place g l = l.chosen.items ≡ items_at l.items (take l.place-index l.places)
