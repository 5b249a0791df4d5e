-- A log as a JSON value, and as a line.
use Rattle.std.specs.Prelude.{◌≡◌, ℕ, ◌≤◌, length, Ok, List, [], ◌∷◌, ◌++◌, map}
use Rattle.serde_json.specs.Data.{Data, object, member, no_members}
use Rattle.serde_json.specs.Written.{compact_text}
use Rattle.fbl_trace.specs.MemberSets.{member_list}
use Rattle.fbl_input.specs.declared.key.Key.TheVariants as keys
use Rattle.fbl_input.specs.Shapes.{longest, name_of}
use Rattle.fbl_runs.specs.Logs.{RunParts}
use Rattle.fbl_runs.specs.declared.judged.Judged.TheVariants.{AtEachMoment}
use Rattle.fbl_runs.specs.declared.recording.Recording.TheVariants.{Log}
use Rattle.fbl_records.specs.DumpLines.{IsSpelled, entry_data, list_data, number_data}
use Rattle.fbl_records.specs.Logs.{log_of_data, recorded_of_input}

-- an object with the keys of a log, in the order of their letters
abbrev pub log_object : ℕ → ℕ → Data → Data → Data
log_object members f events strike =
    object (member (name_of keys.Events) events
    (member (name_of keys.F) (number_data f)
    (member (name_of keys.Members) (number_data members)
    (member (name_of keys.Strike) strike
    (member (name_of keys.Version) (number_data 2) no_members)))))

-- the log as an object, its strike set rising
unfoldable pub log_data : RunParts → Data
log_data log = log_object log.members log.f (list_data (map entry_data log.entries)) (list_data (map number_data (member_list log.strike)))

-- the log with no space, on one line
abbrev pub log_line : RunParts → List ℕ
log_line log = compact_text (log_data log) ++ 10 ∷ []

-- the line, where it is no longer than an input may be, is read as the same log; so it is of a run that is judged at each moment
abbrev pub LogReadsBack : RunParts → Type 0
LogReadsBack log = log.judged ≡ AtEachMoment → length (log_line log) ≤ longest → recorded_of_input (log_line log) ≡ Ok (Log log)

-- for private clauses: the log, where it is judged at each moment, is what is read from the value that it is written as
abbrev pub IsLogRead : RunParts → Type 0
IsLogRead log = (log.judged ≡ AtEachMoment → log_of_data (log_data log) ≡ Ok log) × IsSpelled 3 (log_data log)
