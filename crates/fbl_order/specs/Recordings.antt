-- What comes of several dumps, or of several logs: one run of all their events, in an order.
use Rattle.std.specs.Prelude.{◌≡◌, ℕ, ◌<◌, Bool, false, true, not, List, ◌∷◌, ◌++◌, length, map}
use Rattle.fbl_trace.specs.Dumps.{Parts, IsDump}
use Rattle.fbl_trace.specs.Rules.{WellFormed}
use Rattle.fbl_order.specs.declared.files.FilesDiffer.TheVariants as files
use Rattle.fbl_order.specs.declared.order.Ordered.{Ordered}
use Rattle.fbl_order.specs.Faults.{RefusesGiven, RefusesUnordered}
use Rattle.fbl_order.specs.Files.{IsUnionOfDumps, IsUnionOfLogs, RefusesFiles, dump_group, log_group}
use Rattle.fbl_order.specs.Answers.{DumpsAnswerAlike, IsOrderGiven}
use Rattle.fbl_order.specs.Orders.{ArePlaces, IsOrder, as_entries, with_events}
use Rattle.fbl_runs.specs.Logs.{RunParts}
use Rattle.fbl_runs.specs.declared.recording.Recording.{Recording}
use Rattle.fbl_runs.specs.declared.recording.Recording.TheVariants as checked
use Rattle.fbl_runs.specs.declared.recording.RawRecording.{RawRecording}
use Rattle.fbl_runs.specs.declared.recording.RawRecording.TheVariants as raws
use Rattle.fbl_order.specs.declared.recordings.MergeFault.{MergeFault}
use Rattle.fbl_order.specs.declared.recordings.MergeFault.TheVariants as faults
use Rattle.fbl_order.specs.declared.recordings.Recordings.{Recordings}
use Rattle.fbl_order.specs.declared.recordings.Recordings.TheVariants.{Dumps, Logs}

-- what was found are these dumps, or these logs, of which there is one, in their order
abbrev pub AreRecordings : List RawRecording → Recordings → Type 0
AreRecordings found (Dumps dumps) = found ≡ map raws.Dump dumps.items
AreRecordings found (Logs logs) = (0 < length logs.items) × (found ≡ map raws.Log logs.items)

-- whether it is a log
abbrev pub is_log : RawRecording → Bool
is_log (raws.Dump raw) = false
is_log (raws.Log raw) = true

-- the one with this number is the first of another version: it is a log, and those before it are dumps, or the reverse
pub record IsOtherVersion (found : List RawRecording) (log : Bool) (part : ℕ) : Type 0 where
  pub before : List RawRecording
  pub other : RawRecording
  pub is : is_log other ≡ log
  pub rest : List RawRecording
  pub found_is : found ≡ before ++ other ∷ rest
  pub some : 0 < part
  pub place : length before ≡ part
  pub differ : map is_log before ≡ map (λ _. not log) before

-- they have two versions; or memory ran out
abbrev pub RefusesVersions : List RawRecording → MergeFault → Type 0
RefusesVersions found (faults.LogAmongDumps part) = IsOtherVersion found true part
RefusesVersions found (faults.DumpAmongLogs part) = IsOtherVersion found false part
RefusesVersions found (faults.Files files.Memory) = Unit {0}
RefusesVersions found fault = ⊥

-- how many events or entries each of them has
abbrev pub lengths_of : Recordings → List ℕ
lengths_of (Dumps dumps) = map (λ dump. length dump.events.items) dumps.items
lengths_of (Logs logs) = map (λ log. length log.entries.items) logs.items

-- how many dumps or logs there are
abbrev pub count_of : Recordings → ℕ
count_of (Dumps dumps) = length dumps.items
count_of (Logs logs) = length logs.items

-- the dump is the whole, but for its events, which stand in an order, each given at a place; where they obeyed the rules, they stand as
-- they did; and in whichever order they stand, an audit and a check answer the same
pub record IsMergedDump (whole dump : Parts) (places : List ℕ) : Type 0 where
  pub rules : IsDump dump
  pub parts : dump ≡ with_events dump.events whole
  pub order : IsOrder whole.members whole.events dump.events
  pub given : ArePlaces (as_entries whole.events) (as_entries dump.events) places
  pub kept : WellFormed whole.members whole.events → dump ≡ whole
  pub answers : DumpsAnswerAlike whole dump

-- the same of what the files have together; of logs each member's pieces follow by their lives before
abbrev pub IsMerged : Recordings → Recording → List ℕ → Type 0
IsMerged (Dumps dumps) (checked.Dump dump) places = (whole : Parts) × IsUnionOfDumps dumps.items whole × IsMergedDump whole dump places
IsMerged (Logs logs) (checked.Log log) places =
    (whole : RunParts) × (given : List ℕ) × IsUnionOfLogs logs.items whole given × IsOrderGiven whole given log places
IsMerged recordings run places = ⊥

abbrev pub IsMergeOf : Recordings → Ordered Recording → Type 0
IsMergeOf recordings merged = IsMerged recordings merged.run merged.places.items

-- the files differ; or what they have together has no order, or breaks another rule; or memory ran out
abbrev pub RefusesMerge : Recordings → MergeFault → Type 0
RefusesMerge (Dumps dumps) (faults.Files fault) = RefusesFiles dump_group dumps.items fault
RefusesMerge (Logs logs) (faults.Files fault) = RefusesFiles log_group logs.items fault
RefusesMerge (Dumps dumps) (faults.Order fault) = (whole : Parts) × IsUnionOfDumps dumps.items whole × RefusesUnordered whole fault
RefusesMerge (Logs logs) (faults.Order fault) =
    (whole : RunParts) × (given : List ℕ) × IsUnionOfLogs logs.items whole given × RefusesGiven whole given fault
RefusesMerge recordings fault = ⊥
