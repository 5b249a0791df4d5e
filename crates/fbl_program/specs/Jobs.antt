-- What comes of a job, by what the named files have.
use Rattle.std.specs.Prelude.{◌≡◌, ℕ, ◌⊎◌, Bool, true, false, List, [], ◌∷◌, ◌++◌, Ok, Option, IfSome, codes, count_by, map, nat_lt, option_map, unwrap_or}
use Rattle.std.specs.List.{AllZip}
use Rattle.std.specs.Str.{bytes_eq}
use Rattle.clap.specs.Words.{Text}
use Rattle.fbl_input.specs.declared.input_fault.InputFault.{InputFault}
use Rattle.fbl_records.specs.Logs.{IsNotRecorded, recorded_of_input}
use Rattle.fbl_runs.specs.Recordings.{recorded_parts}
use Rattle.fbl_order.specs.Recordings.{AreRecordings, RefusesVersions}
use Rattle.fbl_order.specs.declared.recordings.MergeFault.{MergeFault}
use Rattle.fbl_order.specs.declared.recordings.Recordings.{Recordings}
use Rattle.fbl_runs.specs.declared.recording.RawRecording.{RawRecording}
use Rattle.fbl_program.specs.declared.command_line.Misuse.{Misuse}
use Rattle.fbl_program.specs.declared.job.Job.{Job}
use Rattle.fbl_program.specs.declared.job.RunTask.{RunTask}
use Rattle.fbl_program.specs.declared.job.Task.{Task}
use Rattle.fbl_program.specs.declared.job.Task.TheVariants.{Script, Run}
use Rattle.fbl_program.specs.CommandLines.{EndsMisuse, IsJobOf, IsMisuseOf}
use Rattle.fbl_program.specs.Outcomes.{EndsMerged, EndsTask}
use Rattle.fbl_program.specs.Statuses.{IsChannelStatus, IsSettled, fault_status, merge_status}

-- what is known of the bytes of a file
abbrev pub Known : Type 0
Known = Option (List ℕ)

-- ---- what files record of a run

-- the file records this
abbrev pub Records : Known → RawRecording → Type 0
Records file found = IfSome file (λ input. recorded_of_input input ≡ Ok (recorded_parts found))

-- the file can't be read, or has a fault, with this exit status
abbrev pub IsUnrecorded : Known → ℕ → Type 0
IsUnrecorded file status = IsChannelStatus status ⊎ IfSome file (λ input. (fault : InputFault) × IsNotRecorded input fault × (status ≡ fault_status fault.fault))

-- the files record dumps, or logs: these, in their order
abbrev pub AreRecordingsOf : List Known → Recordings → Type 0
AreRecordingsOf files recordings = (found : List RawRecording) × AllZip Records files found × AreRecordings found recordings

-- the first of the files that records nothing, or what they record has two versions, or memory ran out: this is the exit status
abbrev pub NotTogether : List Known → ℕ → Type 0
NotTogether files status =
    ((before : List Known) × (file : Known) × (rest : List Known) × (found : List RawRecording) × (files ≡ before ++ file ∷ rest) × AllZip Records before found × IsUnrecorded file status)
    ⊎ ((found : List RawRecording) × (fault : MergeFault) × AllZip Records files found × RefusesVersions found fault × (status ≡ merge_status fault))

-- ---- jobs

-- standard input
abbrev pub standard : Text
standard = codes "-"

-- it is named more than once
abbrev pub is_input_again : List Text → Bool
is_input_again names = nat_lt 1 (count_by (λ name. bytes_eq name standard) names)

-- what the files with these names have, what a writer of one has before it is written, and what comes of one that was written
module _ (input output : Text → Known) (settled : Text → Known → ℕ → ℕ → Type 0) where
  -- the work is done with a writer of the file with this name, and that is settled, or there is none: this is the exit status
  abbrev pub EndsAt : Text → (Known → Known → ℕ → Type 0) → ℕ → Type 0
  EndsAt name Ends status =
      IsChannelStatus status
      ⊎ ((after : Known) × (done : ℕ) × Ends (output name) after done × settled name after done status × IsSettled done status)

  -- the task is done over what one file has, and the text goes to another
  abbrev pub EndsOne : Task → Text → Text → ℕ → Type 0
  EndsOne task name place = EndsAt place (λ before after status. IfSome (input name) (λ file. EndsTask task file before after status))

  -- this is done with what the files record together, if they record something together; standard input can be read once
  abbrev pub EndsSeveral : Bool → RunTask → List Text → Text → ℕ → Type 0
  EndsSeveral true task names place status = status ≡ 2
  EndsSeveral false task names place status =
      ((recordings : Recordings) × AreRecordingsOf (map input names) recordings × EndsAt place (EndsMerged task recordings names) status)
      ⊎ NotTogether (map input names) status

  -- several files are named, this one first: a script is in one
  abbrev pub EndsAll : Task → Text → List Text → Text → ℕ → Type 0
  EndsAll (Script task) name names place status = EndsOne (Script task) name place status
  EndsAll (Run task) name names place status = EndsSeveral (is_input_again names) task names place status

  -- the task is done over the files with these names, and over standard input where there is none
  abbrev pub EndsFiles : Task → List Text → Text → ℕ → Type 0
  EndsFiles task [] place status = EndsOne task standard place status
  EndsFiles task (name ∷ []) place status = EndsOne task name place status
  EndsFiles task (name ∷ other ∷ more) place status = EndsAll task name (name ∷ other ∷ more) place status

  -- the job is done
  abbrev pub EndsJob : Job → ℕ → Type 0
  EndsJob job status = EndsFiles job.task (map (λ name. name.now) job.inputs.items) (unwrap_or (option_map (λ name. name.now) job.output) standard) status

  -- what the words ask for is done, or they are refused
  abbrev pub EndsWords : List Text → ℕ → Type 0
  EndsWords words status =
      ((job : Job) × IsJobOf words job × EndsJob job status)
      ⊎ ((misuse : Misuse) × IsMisuseOf words misuse × EndsMisuse misuse status)
