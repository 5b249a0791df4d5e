-- What an input records of a run, a dump or a log, or its first fault.
use Rattle.std.specs.Prelude.{◌≡◌, ℕ, ◌⊎◌, List, true, Option, Some, None, is_some, option_and_then, Result, Ok, Err, length, nat_lt, if◌then◌else◌}
use Rattle.serde_json.specs.Data.{Data}
use Rattle.serde_json.specs.Find.{as_object, get}
use Rattle.fbl_trace.specs.declared.dump.refusal.DumpRefusal.TheVariants as dump
use Rattle.fbl_input.specs.declared.key.Key.TheVariants as keys
use Rattle.fbl_input.specs.declared.fault.RunFault.{RunFault}
use Rattle.fbl_input.specs.declared.fault.RunFault.TheVariants as faults
use Rattle.fbl_input.specs.declared.input_fault.InputFault.{InputFault}
use Rattle.fbl_input.specs.declared.input_kind.InputKind.{InputKind}
use Rattle.fbl_input.specs.declared.input_kind.InputKind.TheVariants as kinds
use Rattle.fbl_input.specs.Faults.{IsFaultOf}
use Rattle.fbl_runs.specs.declared.fault.LogBreach.{LogBreach}
use Rattle.fbl_input.specs.Items.{entry_shape, unknown_key}
use Rattle.fbl_input.specs.Shapes.{◌>>=◌, or_fault, byte_shape, field, json_of, list_of, longest, name_of, set_shape, value_of_input}
use Rattle.fbl_runs.specs.Logs.{IsLogBreach, RunParts, RefusesLog}
use Rattle.fbl_runs.specs.declared.judged.Judged.TheVariants.{AtEachMoment}
use Rattle.fbl_runs.specs.declared.recording.Recording.{Recording}
use Rattle.fbl_runs.specs.declared.recording.Recording.TheVariants as parts
use Rattle.fbl_runs.specs.Recordings.{ObeysRules, recorded_parts}
use Rattle.fbl_records.specs.declared.reader.RecordedInput.{RecordedInput}
use Rattle.fbl_records.specs.EventLines.{is_whole, json_text, lines_text, log_version}
use Rattle.fbl_records.specs.Dumps.{BreaksParts, RefusesParts, parts_of_data}

-- ---- what an input gives

-- the value that an input means, or its first fault
abbrev pub value_meant : List ℕ → Result Data RunFault
value_meant input = if nat_lt longest (length input) then Err faults.TooLong else or_fault faults.NotJson (json_of (json_text input))

-- the parts of a log that a value gives, or its first fault
unfoldable pub log_of_data : Data → Result RunParts RunFault
log_of_data d = do
  object ← or_fault faults.NotObject (as_object d)
  version ← field keys.Version log_version d
  members ← field keys.Members byte_shape d
  f ← field keys.F byte_shape d
  entries ← field keys.Events (list_of entry_shape) d
  strike ← field keys.Strike set_shape d
  if is_some (unknown_key kinds.Log d) then Err faults.UnknownKey else Ok (record { members = members; f = f; entries = entries; strike = strike; judged = AtEachMoment })

-- what a value is read as: a log where its version is 2, and else a dump
abbrev pub recorded_kind : Data → InputKind
recorded_kind d = if is_some (option_and_then log_version (get (name_of keys.Version) d)) then kinds.Log else kinds.Dump

-- the parts of what a value of this kind records of a run, or its first fault
abbrev pub recorded_as : InputKind → Data → Result Recording RunFault
recorded_as kinds.Log d = log_of_data d >>= λ log. Ok (parts.Log log)
recorded_as kind d = parts_of_data d >>= λ dump. Ok (parts.Dump dump)

abbrev pub recorded_of_data : Data → Result Recording RunFault
recorded_of_data d = recorded_as (recorded_kind d) d

-- the parts of what an input records of a run, or its first fault
abbrev pub recorded_of_input : List ℕ → Result Recording RunFault
recorded_of_input input = value_meant input >>= recorded_of_data

-- an input that is a JSON text, and more than the first line of a log, or that has not the lines of a log, is read as it is
abbrev pub OtherInputsLaw : Type 0
OtherInputsLaw = (input : List ℕ) → (is_whole (json_of input) ≡ true) ⊎ (lines_text input ≡ None) → recorded_of_input input ≡ (value_of_input input >>= recorded_of_data)

-- ---- what a reader says of it

-- the input gives these parts, and means the text with these bytes
abbrev pub IsRecordedOf : List ℕ → RecordedInput → Type 0
IsRecordedOf input found = (recorded_of_input input ≡ Ok (recorded_parts found.recorded)) × (found.bytes.items ≡ json_text input)

-- the input records this of a run, which obeys the rules
abbrev pub IsCheckedOf : List ℕ → Recording → Type 0
IsCheckedOf input found = (recorded_of_input input ≡ Ok found) × ObeysRules found

-- the fault is a refusal of the log
abbrev pub RefusesLogParts : RunParts → RunFault → Type 0
RefusesLogParts log (faults.Dump dump.Memory) = ⊥
RefusesLogParts log (faults.Dump e) = RefusesLog log e
RefusesLogParts log e = ⊥

-- which rule of logs is broken
abbrev pub BreaksLogParts : RunParts → RunFault → Option LogBreach → Type 0
BreaksLogParts log (faults.Dump e) (Some breach) = IsLogBreach log e breach
BreaksLogParts log (faults.Dump e) None = ⊥
BreaksLogParts log fault breach = Unit {0}

-- the fault is a refusal of what is recorded, and which rule is broken
abbrev pub RefusesRecorded : Recording → RunFault → Type 0
RefusesRecorded (parts.Dump dump) e = RefusesParts dump e
RefusesRecorded (parts.Log log) e = RefusesLogParts log e

abbrev pub BreaksRecorded : Recording → RunFault → Option LogBreach → Type 0
BreaksRecorded (parts.Dump dump) e breach = BreaksParts dump e breach
BreaksRecorded (parts.Log log) e breach = BreaksLogParts log e breach

-- what has the form that is asked for is not refused
abbrev pub RefusesNone : Recording → RunFault → Type 0
RefusesNone found fault = ⊥

-- the kind of what is recorded
abbrev pub kind_of : Recording → InputKind
kind_of (parts.Dump dump) = kinds.Dump
kind_of (parts.Log log) = kinds.Log

-- the fault is a refusal of what these bytes record, or memory ran out
pub record IsRefusal (found : Recording) (bytes : List ℕ) (fault : InputFault) : Type 0 where
  pub kind : fault.kind ≡ kind_of found
  pub has : fault.input.items ≡ bytes
  pub refused : (fault.fault ≡ faults.Memory) ⊎ RefusesRecorded found fault.fault
  pub why : BreaksRecorded found fault.fault fault.breach

-- the kind is that of the value that the input means, where the fault is not one of reading or of memory
abbrev pub HasKind : RunFault → List ℕ → InputKind → Type 0
HasKind faults.Read input kind = Unit {0}
HasKind faults.Memory input kind = Unit {0}
HasKind fault input kind = (d : Data) → value_meant input ≡ Ok d → kind ≡ recorded_kind d

-- the fault is the input's first, where this says how what the input gives may be refused, or one of reading or of memory; it has the kind of
-- the input's value, and the bytes of the text that the input means
abbrev pub IsFaultIn : (Recording → RunFault → Type 0) → List ℕ → InputFault → Type 0
IsFaultIn Refuses input fault = HasKind fault.fault input fault.kind × IsFaultOf (recorded_of_input input) Refuses BreaksRecorded (json_text input) fault

-- the fault is the input's first, read as what has the form of a dump or of a log
abbrev pub IsNotRecorded : List ℕ → InputFault → Type 0
IsNotRecorded = IsFaultIn RefusesNone

-- the fault is the input's first, read as a dump or a log
abbrev pub IsNotChecked : List ℕ → InputFault → Type 0
IsNotChecked = IsFaultIn RefusesRecorded
