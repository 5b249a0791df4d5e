use Rattle.fbl_channels.proofs.Common.{◌≡◌, [], map, replicate, deque_items}
use Rattle.fbl_channels.proofs.channels.empty_row.Given as goal

abbrev pub invariant-loop-number : goal.invariant-loop-number
invariant-loop-number g l = map deque_items l.row.items ≡ replicate l._number []
