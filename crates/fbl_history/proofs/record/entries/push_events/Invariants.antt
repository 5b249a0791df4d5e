use Rattle.std.proofs.Common.{◌≡◌, ◌++◌, take}
use Rattle.fbl_history.specs.Records.{event_entries}
use Rattle.fbl_history.proofs.record.entries.push_events.Given as goal

abbrev pub invariant-loop-event : goal.invariant-loop-event
invariant-loop-event l = l.entries.items ≡ l.fn.entries.items ++ event_entries (take l.event-index l.events)
