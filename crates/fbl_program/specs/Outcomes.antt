-- What a task leaves in its writer, and the exit status.
use Rattle.std.specs.Prelude.{◌≡◌, ℕ, ◌&&◌, ◌⊎◌, not, Bool, true, List, [], ◌∷◌, Option, Some, None, Result, Ok, Err, length, map}
use Rattle.std.specs.Io.KnownBytes.{Keeps}
use Rattle.std.specs.List.{list_any}
use Rattle.fbl_history.specs.Records.{HasNoRecord, IsRecord}
use Rattle.fbl_history.specs.declared.column.Column.{Column}
use Rattle.fbl_history.specs.declared.record.RecordRefusal.{RecordRefusal}
use Rattle.fbl_input.specs.Faults.{OverInput, PutsOut, run_result}
use Rattle.fbl_input.specs.declared.fault.RunFault.{RunFault}
use Rattle.fbl_input.specs.declared.input_fault.InputFault.{InputFault}
use Rattle.fbl_input.specs.declared.output.OutputFault.{OutputFault}
use Rattle.fbl_runs.specs.declared.sources.Sources.{Sources}
use Rattle.fbl_judge.specs.Audits.{IsAudit}
use Rattle.fbl_judge.specs.declared.audit.Audit.{Audit as Found}
use Rattle.fbl_order.specs.declared.order.Ordered.{Ordered}
use Rattle.fbl_pictures.specs.HistoryPictures.{IsHistoryPicture}
use Rattle.fbl_pictures.specs.RunPictures.{IsRunPicture}
use Rattle.fbl_pictures.specs.RunShapes.{shown_entries}
use Rattle.fbl_play.specs.Plays.{PlaysUnobserved, next_of}
use Rattle.fbl_scripts.specs.Reasons.{is_refusal}
use Rattle.fbl_play.specs.Transcripts.{history, text}
use Rattle.fbl_records.specs.DumpLines.{dump_line}
use Rattle.fbl_verdicts.specs.Lines.{audit_lines}
use Rattle.fbl_records.specs.LogLines.{log_line}
use Rattle.fbl_records.specs.Logs.{IsCheckedOf, IsNotChecked, IsNotRecorded, recorded_of_input}
use Rattle.fbl_runs.specs.Recordings.{recorded_parts}
use Rattle.fbl_order.specs.Recordings.{AreRecordings, IsMergeOf, RefusesMerge, lengths_of}
use Rattle.fbl_verdicts.specs.Texts.{IsChecked, IsCheckText, says_nothing}
use Rattle.fbl_verdicts.specs.declared.check_text.Checked.{Checked}
use Rattle.fbl_order.specs.declared.recordings.MergeFault.{MergeFault}
use Rattle.fbl_order.specs.declared.recordings.Recordings.{Recordings}
use Rattle.fbl_runs.specs.declared.recording.Recording.{Recording}
use Rattle.fbl_runs.specs.declared.recording.Recording.TheVariants as checked
use Rattle.fbl_runs.specs.declared.recording.RawRecording.{RawRecording}
use Rattle.fbl_runs.specs.Logs.{RunParts, run_of_dump}
use Rattle.fbl_scripts.specs.Scripts.{Outline, IsScriptFault, IsScriptOf, behaviour_word}
use Rattle.fbl_program.specs.declared.fault.AnswerFault.{AnswerFault}
use Rattle.fbl_program.specs.declared.fault.AnswerFault.TheVariants.{Output, Refused}
use Rattle.fbl_program.specs.declared.job.Question.{Question}
use Rattle.fbl_program.specs.declared.job.Question.TheVariants.{Audit, Check, Draw}
use Rattle.fbl_program.specs.declared.job.RunTask.{RunTask}
use Rattle.fbl_program.specs.declared.job.RunTask.TheVariants.{Judge, Merge}
use Rattle.fbl_program.specs.declared.job.ScriptTask.{ScriptTask}
use Rattle.fbl_program.specs.declared.job.ScriptTask.TheVariants.{Play, Record, Show}
use Rattle.fbl_program.specs.declared.job.Task.{Task}
use Rattle.fbl_program.specs.declared.job.Task.TheVariants.{Script, Run}
use Rattle.fbl_program.specs.Arounds.{IsAround, IsMissing}
use Rattle.fbl_program.specs.Statuses.{fault_status, merge_status, status_after}

-- a play, after which all is well but where it is strict and some command was refused
abbrev pub PlaysWell : ℕ → Bool → Outline → Option (List ℕ) → Option (List ℕ) → Result Bool OutputFault → Type 0
PlaysWell workers strict s before after (Ok is_well) = (played : PlaysUnobserved workers s (text before) (text after) (Ok tt)) × (is_well ≡ not (strict && list_any (λ r. is_refusal r.answer) played.0))
PlaysWell workers strict s before after (Err fault) = PlaysUnobserved workers s (text before) (text after) (Err fault)

-- the text is the picture of a history of the script, where so many workers make its runs
abbrev pub IsShown : ℕ → Outline → List ℕ → Type 0
IsShown workers s shown =
    (columns : List Column) × PlaysUnobserved workers s (history None) (history (Some columns)) (Ok tt)
    × IsHistoryPicture s.config.members s.config.f (behaviour_word s.behaviour) columns shown

-- the text is the record of a history of the script, as a line, where so many workers make its runs: it is a log
abbrev pub IsRecorded : ℕ → Outline → List ℕ → Type 0
IsRecorded workers s told =
    (columns : List Column) × (run : RunParts) × PlaysUnobserved workers s (history None) (history (Some columns)) (Ok tt)
    × IsRecord (next_of s.behaviour) s.config columns (Ok run) × (told ≡ log_line run)

-- a history of the script has no record in a log
abbrev pub HasNoLog : ℕ → Outline → Type 0
HasNoLog workers s =
    (columns : List Column) × (fault : RecordRefusal) × PlaysUnobserved workers s (history None) (history (Some columns)) (Ok tt)
    × HasNoRecord (next_of s.behaviour) s.config columns fault

-- what is done with the script, and whether all is well
abbrev pub DoesScript : ScriptTask → Outline → Option (List ℕ) → Option (List ℕ) → Result Bool OutputFault → Type 0
DoesScript (Play workers strict) s before after = PlaysWell workers strict s before after
DoesScript (Show workers) s before after = PutsOut (λ is_well drawn. IsShown workers s drawn × (is_well ≡ true)) before after
DoesScript (Record workers) s before after = PutsOut (λ is_well told. IsRecorded workers s told × (is_well ≡ true)) before after

-- a record is asked for, and no log has it
abbrev pub IsUnrecordable : ScriptTask → Outline → Type 0
IsUnrecordable (Record workers) s = HasNoLog workers s
IsUnrecordable task s = ⊥

-- the same, or nothing is written, as no log has the record
abbrev pub TriesScript : ScriptTask → Outline → Option (List ℕ) → Option (List ℕ) → Result Bool AnswerFault → Type 0
TriesScript task s before after (Ok is_well) = DoesScript task s before after (Ok is_well)
TriesScript task s before after (Err (Output fault)) = DoesScript task s before after (Err fault)
TriesScript task s before after (Err Refused) = IsUnrecordable task s × Keeps before after

-- what is told of the run, whose entries stand in these files, and whether all is well
abbrev pub IsAnswerTo : Question → RunParts → Sources → Bool → List ℕ → Type 0
IsAnswerTo Audit run sources is_well told = (found : Found) × IsAudit run found × (told ≡ audit_lines (map (λ l. l.determinant) found.lost.items) found.orphans) × (is_well ≡ true)
IsAnswerTo Check run sources is_well told = (said : Checked) × IsChecked run said × IsCheckText sources said told × (is_well ≡ says_nothing said)
IsAnswerTo (Draw words) run sources is_well told =
    (around : Option ℕ) × IsAround sources (length (shown_entries run)) words around × IsRunPicture run sources around told × (is_well ≡ true)

-- a picture is asked for around an entry that is not there
abbrev pub IsPlaceMissing : Question → RunParts → Sources → Type 0
IsPlaceMissing (Draw words) run sources = IsMissing sources (length (shown_entries run)) words
IsPlaceMissing question run sources = ⊥

-- the run of a dump is judged at its end
abbrev pub run_of : Recording → RunParts
run_of (checked.Dump dump) = run_of_dump dump
run_of (checked.Log run) = run

-- the dump or the log as a line
abbrev pub run_line : Recording → List ℕ
run_line (checked.Dump dump) = dump_line dump
run_line (checked.Log run) = log_line run

-- what is told where the task is done with the dump or the log
abbrev pub IsAnswer : RunTask → Recording → Sources → Bool → List ℕ → Type 0
IsAnswer (Judge question) found sources is_well told = IsAnswerTo question (run_of found) sources is_well told
IsAnswer Merge found sources is_well told = (told ≡ run_line found) × (is_well ≡ true)

-- so is one of the dump or the log
abbrev pub IsPlaceMissingOf : RunTask → Recording → Sources → Type 0
IsPlaceMissingOf (Judge question) found sources = IsPlaceMissing question (run_of found) sources
IsPlaceMissingOf Merge found sources = ⊥

-- what an answer leaves in the writer, where a relation says which answers are right; or it is of an entry that is missing: nothing is written
abbrev pub Answers : (Bool → List ℕ → Type 0) → Type 0 → Option (List ℕ) → Option (List ℕ) → Result Bool AnswerFault → Type 0
Answers IsRight Missing before after (Ok is_well) = PutsOut IsRight before after (Ok is_well)
Answers IsRight Missing before after (Err (Output fault)) = PutsOut IsRight before after (Err fault)
Answers IsRight Missing before after (Err Refused) = Missing × Keeps before after

-- what is left in the writer, and the exit status, where this is done with a dump or a log, whose entries stand in these files
abbrev pub EndsWith : RunTask → Recording → Sources → Option (List ℕ) → Option (List ℕ) → ℕ → Type 0
EndsWith task found sources before after status =
    ((done : Result Bool OutputFault) × PutsOut (IsAnswer task found sources) before after done × (status ≡ status_after (run_result done)))
    ⊎ (IsPlaceMissingOf task found sources × Keeps before after × (status ≡ 2))

-- the same where it is that of one file
abbrev pub EndsAlone : RunTask → Recording → Option (List ℕ) → Option (List ℕ) → ℕ → Type 0
EndsAlone task found before after status = (sources : Sources) × (sources.places.now ≡ []) × EndsWith task found sources before after status

-- the fault of what files record together is told: nothing is written
abbrev pub IsRefused : MergeFault → Option (List ℕ) → Option (List ℕ) → ℕ → Type 0
IsRefused fault before after status = Keeps before after × (status ≡ merge_status fault)

-- these are the files with these names in which the events of the merged run stand
pub record AreSourcesOf (recordings : Recordings) (merged : Ordered Recording) (names : List (List ℕ)) (sources : Sources) : Type 0 where
  pub names_are : map (λ name. name.now) sources.names.now ≡ names
  pub lengths : sources.lengths.now ≡ lengths_of recordings
  pub places : sources.places.now ≡ merged.places.items

-- what is left in the writer, and the exit status, where this is done with what the files with these names record together, if that is a run
abbrev pub EndsMerged : RunTask → Recordings → List (List ℕ) → Option (List ℕ) → Option (List ℕ) → ℕ → Type 0
EndsMerged task recordings names before after status =
    ((merged : Ordered Recording) × IsMergeOf recordings merged × (sources : Sources) × AreSourcesOf recordings merged names sources
    × EndsWith task merged.run sources before after status)
    ⊎ ((fault : MergeFault) × RefusesMerge recordings fault × IsRefused fault before after status)

-- the same of the one dump or log, unless memory runs out
abbrev pub EndsRecorded : RunTask → RawRecording → Option (List ℕ) → Option (List ℕ) → ℕ → Type 0
EndsRecorded task recorded before after status =
    ((recordings : Recordings) × AreRecordings (recorded ∷ []) recordings × EndsMerged task recordings [] before after status)
    ⊎ (Keeps before after × (status ≡ 4))

-- the fault of an input is told: nothing is written
abbrev pub IsToldOf : InputFault → Option (List ℕ) → Option (List ℕ) → ℕ → Type 0
IsToldOf fault before after status = Keeps before after × (status ≡ fault_status fault.fault)

-- what is left in the writer, and the exit status, where the task is done over this input: it is judged as it stands, and a merge puts its
-- events into an order
abbrev pub EndsTask : Task → List ℕ → Option (List ℕ) → Option (List ℕ) → ℕ → Type 0
EndsTask (Script task) input before after status =
    ((done : Result Bool RunFault) × OverInput (IsScriptOf input) (IsScriptFault input) (λ s. DoesScript task s before after) before after done × (status ≡ status_after done))
    ⊎ ((s : Outline) × IsScriptOf input s × IsUnrecordable task s × Keeps before after × (status ≡ 2))
EndsTask (Run (Judge question)) input before after status =
    ((found : Recording) × IsCheckedOf input found × EndsAlone (Judge question) found before after status)
    ⊎ ((fault : InputFault) × IsNotChecked input fault × IsToldOf fault before after status)
EndsTask (Run Merge) input before after status =
    ((found : RawRecording) × (recorded_of_input input ≡ Ok (recorded_parts found)) × EndsRecorded Merge found before after status)
    ⊎ ((fault : InputFault) × IsNotRecorded input fault × IsToldOf fault before after status)
