use Rattle.fbl_order.proofs.Common.{◌≡◌, as_entries, take}
use Rattle.fbl_order.proofs.dumps.entries_of.Given as goal

abbrev pub invariant-loop-event : goal.invariant-loop-event
invariant-loop-event l = l.entries.items ≡ as_entries (take l.event-index l.events)
