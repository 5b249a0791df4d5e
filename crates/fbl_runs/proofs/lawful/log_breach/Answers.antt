use Rattle.fbl_runs.proofs.Common.{ℕ, false, ◌≡◌, ◌≤◌, Option, Some, None, arith, inl, length, refl, marks, slice_get_within}
use Rattle.std.proofs.Common.{MatchOption}
use Rattle.std.specs.Option.{unwrap_or}
use Rattle.fbl_trace.specs.Dumps.{RefusesDump, IsDumpBreach}
use Rattle.fbl_trace.specs.declared.fault.Breach.{Breach}
use Rattle.fbl_trace.specs.declared.fault.Breach.TheVariants as breach
use Rattle.fbl_trace.specs.declared.fault.EventFault.{EventFault}
use Rattle.fbl_trace.specs.declared.dump.refusal.DumpRefusal.{DumpRefusal}
use Rattle.fbl_trace.specs.declared.dump.refusal.DumpRefusal.TheVariants.{BadEvent, BadHeld}
use Rattle.fbl_runs.specs.Lawful.{IsEventPlace}
use Rattle.fbl_runs.specs.Logs.{IsBreachBy, RunParts, RefusesPlain, parts_of_log, trace_of}
use Rattle.fbl_runs.specs.declared.fault.LogBreach.TheVariants.{Trace}
use Rattle.fbl_runs.proofs.lawful.log_breach.Goals as goal

-- what is refused for another thing than an event
other : (log : RunParts) (r : DumpRefusal) (b : Breach) → RefusesDump (trace_of log) r → IsDumpBreach (trace_of log) r b → ((f : EventFault) → ¬ (b ≡ breach.Event f))
    → RefusesPlain log r × IsBreachBy false log r (Trace b)
other log (BadHeld place) b refuses breaks no_event = absurd (refuses.3.1 (λ h at. cc))
other log (BadEvent place) (breach.Event fault) refuses breaks no_event = absurd (no_event fault refl)
other log (BadEvent place) _ refuses breaks no_event = absurd breaks
other log _ b refuses breaks no_event = (refuses, breaks)

-- what is refused for an event, whose place is found among all entries
event : (log : RunParts) (r : DumpRefusal) (fault : EventFault) → RefusesDump (trace_of log) r → IsDumpBreach (trace_of log) r (breach.Event fault)
    → (found : Option ℕ) → MatchOption found (length (marks log.entries) ≤ fault.place) (IsEventPlace log.entries fault.place)
    → (place : ℕ) → place ≡ unwrap_or found fault.place
    → RefusesPlain log (BadEvent place) × IsBreachBy false log (BadEvent place) (Trace (breach.Event (record fault { place = place })))
event log (BadEvent p) fault refuses breaks (Some q) found place is = rw is (
  inl (fault.place, found, (rw breaks.0 refuses)),
  (refl, (fault.place, found, breaks.1)),
)
event log (BadEvent p) fault refuses breaks None found place is =
    absurd (omega (arith, found, slice_get_within (marks log.entries) fault.place fault.event breaks.1.0))
event log _ fault refuses breaks found at place is = absurd breaks

pub returns-in_default : goal.returns-in_default
returns-in_default c =
    let both = other (parts_of_log c.args.raw.now) c.args.refusal c.args.breach.now c.requires.refused c.requires.breach c.in_default.not-Event in
    record { refused = both.0; breach = both.1 }

pub returns-clause-refused : goal.returns-clause-refused
returns-clause-refused c =
    (event (parts_of_log c.args.raw.now) c.args.refusal c.in-Event.fault c.requires.refused (rw c.in-Event.is at c.requires.breach) c.event_place.result
    (rw c.as_slice.ensures.value at c.event_place.ensures) c.unwrap_or-place.result c.unwrap_or-place.ensures).0

pub returns-clause-breach : goal.returns-clause-breach
returns-clause-breach c =
    (event (parts_of_log c.args.raw.now) c.args.refusal c.in-Event.fault c.requires.refused (rw c.in-Event.is at c.requires.breach) c.event_place.result
    (rw c.as_slice.ensures.value at c.event_place.ensures) c.unwrap_or-place.result c.unwrap_or-place.ensures).1
