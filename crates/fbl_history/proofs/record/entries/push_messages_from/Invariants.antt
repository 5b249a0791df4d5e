use Rattle.std.proofs.Common.{◌≡◌, ◌++◌}
use Rattle.fbl_history.specs.Records.{messages_from}
use Rattle.fbl_history.proofs.record.entries.push_messages_from.Given as goal

abbrev pub invariant-loop-number : goal.invariant-loop-number
invariant-loop-number l = l.messages.items ≡ l.fn.messages.items ++ messages_from l.id l.from l.receivers l.number
