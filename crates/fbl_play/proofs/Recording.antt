-- The record of a play's history is that of the play.
use Rattle.fbl_history.specs.Records.{IsRecord}
use Rattle.fbl_history.specs.declared.record.RecordRefusal.{RecordRefusal}
use Rattle.fbl_history.specs.declared.record.RecordRefusal.TheVariants as faults
use Rattle.fbl_runs.specs.Logs.{RunParts}
use Rattle.fbl_trace.specs.declared.trace.Note.{Note}
use Rattle.fbl_scripts.specs.Scripts.{Outline}
use Rattle.fbl_play.proofs.Common.{Answer, Column, Command, Err, GroupRecord, List, None, Ok, Result, Some, Transcript, next_of, ℕ}
use Rattle.fbl_play.specs.Plays.{IsRecordPlay, PlaysScript}
use Rattle.fbl_play.specs.Transcripts.{history}

pub record_play : {O : Type 0} (before : GroupRecord ℕ Note → Transcript → O → Command → O → Type 0) (after : GroupRecord ℕ Note → Transcript → O → Command → Answer → O → Type 0)
    (workers : ℕ) (s : Outline) (old new : O) (columns : List Column) → PlaysScript before after workers s (history None) (history (Some columns)) old new (Ok tt)
    → (r : Result RunParts RecordRefusal) → IsRecord (next_of s.behaviour) s.config columns r → IsRecordPlay before after workers s old new r
record_play before after workers s old new columns plays (Err faults.Memory) is = tt
record_play before after workers s old new columns plays r is = (columns, plays, is)
