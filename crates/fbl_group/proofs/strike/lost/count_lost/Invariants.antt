use Rattle.fbl_group.proofs.Common.{◌≡◌, take, count_by, is_lost_receipt_of}
use Rattle.fbl_group.proofs.strike.lost.count_lost.Given as goal

abbrev pub invariant-loop-event : goal.invariant-loop-event
invariant-loop-event g l = l.lost ≡ count_by (is_lost_receipt_of l.down l.members l.checkpoints) (take l.event-index l.trace)
