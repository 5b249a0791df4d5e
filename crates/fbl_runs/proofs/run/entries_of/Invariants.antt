use Rattle.fbl_runs.proofs.Common.{◌≡◌, ◌++◌, take}
use Rattle.std.proofs.Common.{map}
use Rattle.fbl_runs.specs.declared.entry.Entry.TheVariants.{Event}
use Rattle.fbl_runs.specs.Logs.{hold_of}
use Rattle.fbl_runs.proofs.run.entries_of.Given as goal

abbrev pub invariant-loop-event : goal.invariant-loop-event
invariant-loop-event l = l.entries.items ≡ map Event (take l.event-index l.events)

abbrev pub invariant-loop-holder : goal.invariant-loop-holder
invariant-loop-holder l = l.entries.items ≡ map Event l.events ++ map hold_of (take l.holder-index l.held)
