use Rattle.fbl_channels.proofs.Common.{◌≡◌, [], replicate, deque_items, each}
use Rattle.fbl_channels.proofs.channels.empty_channels.Given as goal

abbrev pub invariant-loop-number : goal.invariant-loop-number
invariant-loop-number g l = each deque_items l.rows.items ≡ replicate l._number (replicate l.n [])
