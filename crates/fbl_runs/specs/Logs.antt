-- Recorded runs, from dumps and from logs, and the rules that they obey.
use Rattle.std.specs.Prelude.{ℕ, ◌≡◌, ◌⊎◌, ◌++◌, Bool, true, false, List, [], Some, map}
use Rattle.fbl_trace.specs.declared.trace.Determinant.{Determinant}
use Rattle.fbl_trace.specs.Dumps.{Parts, IsDump, RefusesDump, IsDumpBreach}
use Rattle.fbl_trace.specs.Breaches.{IsEventFault}
use Rattle.fbl_trace.specs.Configs.{FAllowed, IsFirstBreach, MembersAllowed}
use Rattle.fbl_trace.specs.MemberSets.{AllBelow, Members}
use Rattle.fbl_trace.specs.declared.fault.Breach.TheVariants as breach
use Rattle.fbl_trace.specs.declared.dump.refusal.DumpRefusal.{DumpRefusal}
use Rattle.fbl_trace.specs.declared.dump.refusal.DumpRefusal.TheVariants.{BadEvent, BadF, BadHeld, BadMembers, BadStrike, Memory}
use Rattle.fbl_runs.specs.declared.entry.Entry.{Entry}
use Rattle.fbl_runs.specs.declared.entry.Entry.TheVariants.{Event, Hold}
use Rattle.fbl_runs.specs.declared.fault.LogBreach.{LogBreach}
use Rattle.fbl_runs.specs.declared.fault.LogBreach.TheVariants.{Control, Life, Record, Trace}
use Rattle.fbl_runs.specs.declared.judged.Judged.{Judged}
use Rattle.fbl_runs.specs.declared.judged.Judged.TheVariants.{AtEachMoment, AtItsEnd}
use Rattle.fbl_runs.specs.declared.run.RawLog.{RawLog}
use Rattle.fbl_runs.specs.ControlMessages.{AreTold, IsFirstUntold, IsToldAt}
use Rattle.fbl_runs.specs.Entries.{log_of, marks, recorded_in}
use Rattle.fbl_runs.specs.HappenedBefore.{Position, IsAt}
use Rattle.fbl_runs.specs.Moments.{IsKnownTo}
use Rattle.fbl_runs.specs.Lawful.{IsEventPlace, IsFewAt, IsFirstBad, ObeysAt}
use Rattle.fbl_runs.specs.Rules.{FollowsAt, IsFirstLifeFault, have_lives}
use Rattle.fbl_runs.specs.Runs.{AreEntries, Run}
use Rattle.fbl_trace.specs.Rules.{WellFormed}

-- the five parts of a run
pub record RunParts : Type 0 where
  pub members : ℕ
  pub f : ℕ
  pub entries : List Entry
  pub strike : Members
  pub judged : Judged

-- the parts, as contracts see them
abbrev pub parts_of : RawLog → Judged → RunParts
parts_of raw judged = record { members = raw.members; f = raw.f; entries = raw.entries.items; strike = raw.strike; judged = judged }

-- a log is judged at each moment
abbrev pub parts_of_log : RawLog → RunParts
parts_of_log raw = parts_of raw AtEachMoment

-- the run that is recorded
abbrev pub run_of : RunParts → Run
run_of run = record { members = run.members; f = run.f; strike = run.strike; judged = run.judged; logs = log_of run.entries }

-- the rules of a run: its numbers and its strike set are allowed, and its entries are those of one
pub record IsRun (run : RunParts) : Type 0 where
  pub f : FAllowed run.members run.f
  pub strike : AllBelow run.strike run.members
  pub lawful : AreEntries run.members run.entries

-- ---- dumps

-- who holds what, as an entry
abbrev pub hold_of : ℕ × Determinant → Entry
hold_of h = Hold h.0 h.1

-- a dump is a run that is judged at its end: its events, and behind them, in the logs of their holders, its pairs
abbrev pub run_of_dump : Parts → RunParts
run_of_dump dump = record { members = dump.members; f = dump.f; entries = map Event dump.events ++ map hold_of dump.held; strike = dump.strike; judged = AtItsEnd }

-- ---- logs

-- its sends, receipts, control messages and restarts obey their rules: where no member restarts, those of traces
abbrev pub FollowRules : RunParts → Bool → Type 0
FollowRules log false = WellFormed log.members (marks log.entries) × AreTold log.members log.entries
FollowRules log true = (i : ℕ) → FollowsAt log.members log.entries i

-- the rules of a log: those of a run, each hold and store is of a receipt that happened before it, and they are at most 131,072
pub record IsLog (log : RunParts) : Type 0 where
  pub run : IsRun log
  pub rules : FollowRules log (have_lives log.entries)
  pub known : (j : Position) (e : Entry) (d : Determinant) → IsAt (log_of log.entries) j e → recorded_in e ≡ Some d → IsKnownTo (log_of log.entries) d j
  pub few : (i : ℕ) → IsFewAt log.entries i

-- ---- refusals

-- the sends and receipts as a dump in which nobody holds anything
abbrev pub trace_of : RunParts → Parts
trace_of log = record { members = log.members; f = log.f; events = marks log.entries; held = []; strike = log.strike }

-- the refusal of a log in which nobody restarts is the first that fits: what such a dump is refused for, or else the first entry that breaks
-- a rule of control messages, or else of holds and stores; its place is that among all entries, and memory may run out once the parameters
-- are allowed
abbrev pub RefusesPlain : RunParts → DumpRefusal → Type 0
RefusesPlain log (BadEvent place) =
    ((event : ℕ) × IsEventPlace log.entries event place × RefusesDump (trace_of log) (BadEvent event))
    ⊎ (IsDump (trace_of log) × IsFirstBreach (IsToldAt log.members log.entries) place)
    ⊎ (IsDump (trace_of log) × AreTold log.members log.entries × IsFirstBreach (ObeysAt log.members log.entries) place)
RefusesPlain log (BadHeld place) = ⊥
RefusesPlain log refusal = RefusesDump (trace_of log) refusal

-- that of one with restarts: the group's numbers, or else the first entry that breaks a rule of lives, or else the strike set, or else the
-- first that breaks a rule of holds and stores
abbrev pub RefusesLived : RunParts → DumpRefusal → Type 0
RefusesLived log BadMembers = ¬ (MembersAllowed log.members)
RefusesLived log BadF = MembersAllowed log.members × ¬ (FAllowed log.members log.f)
RefusesLived log (BadEvent place) =
    MembersAllowed log.members × FAllowed log.members log.f
    × (IsFirstBreach (FollowsAt log.members log.entries) place
    ⊎ (((i : ℕ) → FollowsAt log.members log.entries i) × AllBelow log.strike log.members × IsFirstBreach (ObeysAt log.members log.entries) place))
RefusesLived log (BadHeld place) = ⊥
RefusesLived log BadStrike =
    MembersAllowed log.members × FAllowed log.members log.f × ((i : ℕ) → FollowsAt log.members log.entries i) × ¬ (AllBelow log.strike log.members)
RefusesLived log Memory = MembersAllowed log.members × FAllowed log.members log.f

abbrev pub RefusesBy : Bool → RunParts → DumpRefusal → Type 0
RefusesBy false = RefusesPlain
RefusesBy true = RefusesLived

abbrev pub RefusesLog : RunParts → DumpRefusal → Type 0
RefusesLog log refusal = RefusesBy (have_lives log.entries) log refusal

-- this is what the log is refused for, by the case
abbrev pub IsBreachBy : Bool → RunParts → DumpRefusal → LogBreach → Type 0
IsBreachBy false log (BadEvent place) (Trace (breach.Event fault)) =
    (fault.place ≡ place) × ((event : ℕ) × IsEventPlace log.entries event place × IsEventFault log.members (marks log.entries) (record fault { place = event }))
IsBreachBy false log (BadEvent place) (Control fault) = (fault.place ≡ place) × IsFirstUntold log.members log.entries fault
IsBreachBy true log (BadEvent place) (Life fault) = (fault.place ≡ place) × IsFirstLifeFault log.members log.entries fault
IsBreachBy lived log (BadEvent place) (Record fault) = (fault.place ≡ place) × IsFirstBad log.members log.entries fault
IsBreachBy lived log refusal (Control fault) = ⊥
IsBreachBy lived log refusal (Life fault) = ⊥
IsBreachBy lived log refusal (Record fault) = ⊥
IsBreachBy false log refusal (Trace breach) = IsDumpBreach (trace_of log) refusal breach
IsBreachBy true log (BadEvent place) (Trace breach) = ⊥
IsBreachBy true log refusal (Trace breach) = IsDumpBreach (trace_of log) refusal breach

abbrev pub IsLogBreach : RunParts → DumpRefusal → LogBreach → Type 0
IsLogBreach log refusal broken = IsBreachBy (have_lives log.entries) log refusal broken
