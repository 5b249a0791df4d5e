use Rattle.std.proofs.Common.{◌≡◌, [], if◌then◌else◌}
use Rattle.std.specs.FinSet as set
use Rattle.fbl_history.specs.Records.{each_member, messages_from}
use Rattle.fbl_history.proofs.record.entries.next_messages.Given as goal

abbrev pub invariant-loop-number : goal.invariant-loop-number
invariant-loop-number l = l.messages.items ≡ each_member (λ from. if set.contains l.senders from then messages_from l.id from l.receivers l.n else []) l.number
