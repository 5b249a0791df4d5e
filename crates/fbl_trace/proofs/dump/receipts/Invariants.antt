use Rattle.fbl_trace.proofs.Common.{◌≡◌, take, Determinant, same_determinant, is_received}
use Rattle.std.specs.HashSet as hash_set
use Rattle.fbl_trace.proofs.dump.receipts.Given as goal

abbrev pub invariant-loop-event : goal.invariant-loop-event
invariant-loop-event l = (d : Determinant) → hash_set.contains same_determinant l.receipts d ≡ is_received (take l.event-index l.events) d
