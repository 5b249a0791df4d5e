-- Runs of a script's commands, with their transcripts, and what an observer observes and when.
use Rattle.std.specs.Prelude.{◌≡◌, ℕ, ◌<◌, ◌⊎◌, List, [], ◌∷◌, length, map, take, slice_index_or, Option, Some, None, Result, Ok, Err}
use Rattle.fbl_trace.specs.declared.trace.Note.{Note}
use Rattle.fbl_trace.specs.Configs.{Settings}
use Rattle.fbl_trace.specs.Fold.{Next}
use Rattle.fbl_trace.specs.Steps.{relay_step, mix_step, numbered_from_0}
use Rattle.fbl_input.specs.declared.fault.RunFault.{RunFault}
use Rattle.fbl_input.specs.declared.output.OutputFault.{OutputFault}
use Rattle.fbl_input.specs.declared.output.OutputFault.TheVariants as outputs
use Rattle.fbl_input.specs.Faults.{OverInput}
use Rattle.fbl_law.specs.Groups.{GroupRecord, IsSound}
use Rattle.fbl_law.specs.GroupSteps.{IsGroupStart}
use Rattle.fbl_scripts.specs.declared.script.BehaviourName.{BehaviourName}
use Rattle.fbl_scripts.specs.declared.script.BehaviourName.TheVariants.{Relay, Mix}
use Rattle.fbl_scripts.specs.declared.script.Command.{Command}
use Rattle.fbl_scripts.specs.Scripts.{Outline, IsScriptOf, IsScriptFault}
use Rattle.fbl_history.specs.Records.{IsRecord}
use Rattle.fbl_history.specs.declared.column.Column.{Column}
use Rattle.fbl_history.specs.declared.record.RecordRefusal.{RecordRefusal}
use Rattle.fbl_history.specs.declared.record.RecordRefusal.TheVariants as faults
use Rattle.fbl_runs.specs.Logs.{RunParts}
use Rattle.fbl_scripts.specs.declared.answer.Answer.{Answer}
use Rattle.fbl_play.specs.Steps.{Step}
use Rattle.fbl_play.specs.Transcripts.{Transcript, IsAdded, IsBegun, IsCut, IsOfGroup, history, text}

-- a moment of a run: the group and the transcript as they are then
pub record Moment : Type 0 where
  pub group : GroupRecord ℕ Note
  pub transcript : Transcript

-- a command that was run, with its answer, from one moment to another
pub record Ran : Type 0 where
  pub old : Moment
  pub command : Command
  pub answer : Answer
  pub new : Moment

-- the step of a behaviour
abbrev pub next_of : BehaviourName → Next ℕ Note
next_of Relay = numbered_from_0 relay_step
next_of Mix = numbered_from_0 mix_step

-- ---- runs, of a behaviour with this step, by this many workers

module _ (next : Next ℕ Note) (workers : ℕ) where
  -- the command is run, and added to the transcript; the group that it leaves is sound: each state that is printed is the
  -- fold of the member's receipts in the trace
  pub record IsRunOne (ran : Ran) : Type 0 where
    pub step : Step next workers ran.old.group ran.command ran.new.group ran.answer
    pub sound : IsSound next ran.new.group
    pub added : IsAdded next ran.new.group ran.answer ran.old.transcript ran.new.transcript

  -- these commands in turn lead from one moment to another
  abbrev pub Along : List Ran → Moment → Moment → Type 0
  Along [] old new = new ≡ old
  Along (ran ∷ more) old new = (ran.old ≡ old) × IsRunOne ran × Along more ran.new new

  -- the commands were run so, from a sound new group of this config to this moment, where the transcript was this one before; where
  -- it is a history it then is one of the group
  pub record IsRun (config : Settings Note) (cs : List Command) (had : Transcript) (ran : List Ran) (end : Moment) : Type 0 where
    pub first : GroupRecord ℕ Note
    pub begun : Transcript
    pub start : IsGroupStart next config first
    pub sound : IsSound next first
    pub begins : IsBegun next first had begun
    pub commands : map (λ r. r.command) ran ≡ cs
    pub along : Along ran (record { group = first; transcript = begun }) end
    pub told : IsOfGroup next end.group end.transcript

  -- the command could not be run at this moment for want of memory, or not be added to the transcript, which now is this one
  abbrev pub IsStopped : Moment → Command → OutputFault → Transcript → Type 0
  IsStopped at command fault has =
      ((fault ≡ outputs.Memory) × (has ≡ at.transcript))
      ⊎ ((new : GroupRecord ℕ Note) × (answer : Answer) × Step next workers at.group command new answer × IsSound next new × IsCut new answer fault at.transcript has)

  -- a run of the first so many commands came to a moment at which the next one stopped
  pub record IsStoppedRun (config : Settings Note) (cs : List Command) (fault : OutputFault) (had has : Transcript) : Type 0 where
    pub done : ℕ
    pub ran : List Ran
    pub at : Moment
    pub command : Command
    pub within : done < length cs
    pub is : command ≡ slice_index_or cs done command
    pub run : IsRun config (take done cs) had ran at
    pub stopped : IsStopped at command fault has

  -- what a play of the commands on a new group of this config leaves of the transcript: a run of all of them, or of those before the
  -- one at which it stopped; or there was no memory to begin with
  abbrev pub Runs : Settings Note → List Command → Transcript → Transcript → Result (Unit {0}) OutputFault → Type 0
  Runs config cs had has (Ok x) = (ran : List Ran) × (r : GroupRecord ℕ Note) × IsRun config cs had ran (record { group = r; transcript = has })
  Runs config cs had has (Err fault) = ((fault ≡ outputs.Memory) × (has ≡ had)) ⊎ IsStoppedRun config cs fault had has

-- what a play of a script leaves of the transcript, whoever observes it
abbrev pub PlaysUnobserved : ℕ → Outline → Transcript → Transcript → Result (Unit {0}) OutputFault → Type 0
PlaysUnobserved workers s had has result = Runs (next_of s.behaviour) workers s.config s.commands had has result

-- ---- an observer, by what it is after it observed, at this group and this transcript, that a command is to be run, and that it
-- was run with an answer

module _ {O : Type 0} (before : GroupRecord ℕ Note → Transcript → O → Command → O → Type 0) (after : GroupRecord ℕ Note → Transcript → O → Command → Answer → O → Type 0) where
  -- it observed these commands, each as things were before it, and as they were once it was in the transcript
  abbrev pub Observes : List Ran → O → O → Type 0
  Observes [] old new = new ≡ old
  Observes (ran ∷ more) old new =
      (begun : O) × (mid : O) × before ran.old.group ran.old.transcript old ran.command begun
      × after ran.new.group ran.new.transcript begun ran.command ran.answer mid × Observes more mid new

  module _ (next : Next ℕ Note) (workers : ℕ) where
    -- what a play leaves of the transcript and the observer: it observed each command that was run, and that the one that stopped
    -- is to be run; nothing where there was no memory to begin with
    abbrev pub IsPlay : Settings Note → List Command → Transcript → Transcript → O → O → Result (Unit {0}) OutputFault → Type 0
    IsPlay config cs had has old new (Ok x) = (run : Runs next workers config cs had has (Ok x)) × Observes run.0 old new
    IsPlay config cs had has old new (Err fault) =
        ((fault ≡ outputs.Memory) × (has ≡ had) × (new ≡ old))
        ⊎ ((s : IsStoppedRun next workers config cs fault had has) × (mid : O) × Observes s.ran old mid × before s.at.group s.at.transcript mid s.command new)

  -- what a play of a script leaves of the transcript and the observer
  abbrev pub PlaysScript : ℕ → Outline → Transcript → Transcript → O → O → Result (Unit {0}) OutputFault → Type 0
  PlaysScript workers s had has old new result = IsPlay (next_of s.behaviour) workers s.config s.commands had has old new result

  -- the answer is the history of a run of the script, or there was no memory for it
  abbrev pub IsHistoryPlay : {E : Type 0} → ℕ → Outline → O → O → Result (List Column) E → Type 0
  IsHistoryPlay workers s old new (Ok columns) = PlaysScript workers s (history None) (history (Some columns)) old new (Ok tt)
  IsHistoryPlay workers s old new (Err e) = (has : Transcript) × PlaysScript workers s (history None) has old new (Err outputs.Memory)

  -- the answer is the record of a history of a run of the script, or that history has none; or there was no memory
  abbrev pub IsRecordPlay : ℕ → Outline → O → O → Result RunParts RecordRefusal → Type 0
  IsRecordPlay workers s old new (Err faults.Memory) = Unit {0}
  IsRecordPlay workers s old new result =
      (columns : List Column) × PlaysScript workers s (history None) (history (Some columns)) old new (Ok tt)
      × IsRecord (next_of s.behaviour) s.config columns result

-- what a play of an input leaves in the writer
abbrev pub ReadsAndPlays : ℕ → List ℕ → Option (List ℕ) → Option (List ℕ) → Result (Unit {0}) RunFault → Type 0
ReadsAndPlays workers input before after =
    OverInput (IsScriptOf input) (IsScriptFault input) (λ s. PlaysUnobserved workers s (text before) (text after)) before after
