use Rattle.fbl_pictures.proofs.Common.{◌≡◌, ◌||◌, drop, same_message, MessageName, has_standing_receipt}
use Rattle.std.specs.HashSet as hash_set
use Rattle.fbl_pictures.proofs.history.messages.received_in.Given as goal

abbrev pub invariant-loop-column : goal.invariant-loop-column
invariant-loop-column l = (m : MessageName)
    → (hash_set.contains same_message l.received m || has_standing_receipt (drop l.column-index l.columns) m) ≡ has_standing_receipt l.columns m
