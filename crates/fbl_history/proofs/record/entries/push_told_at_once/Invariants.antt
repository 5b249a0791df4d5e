use Rattle.std.proofs.Common.{◌≡◌, ◌++◌, take}
use Rattle.std.specs.Prelude.{flat_map}
use Rattle.fbl_history.specs.Records.{told_at_once}
use Rattle.fbl_history.proofs.record.entries.push_told_at_once.Given as goal

abbrev pub invariant-loop-message : goal.invariant-loop-message
invariant-loop-message l = l.entries.items ≡ l.fn.entries.items ++ flat_map told_at_once (take l.message-index l.messages)
