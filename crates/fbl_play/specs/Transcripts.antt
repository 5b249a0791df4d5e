-- The transcript of a run: the text that its commands print, or its history.
use Rattle.std.specs.Prelude.{◌≡◌, ℕ, ◌<◌, List, [], ◌∷◌, ◌++◌, length, take, Option, None, Some}
use Rattle.std.specs.Io.KnownBytes.{Appends}
use Rattle.fbl_trace.specs.declared.trace.Note.{Note}
use Rattle.fbl_trace.specs.Fold.{Next}
use Rattle.fbl_history.specs.declared.column.Column.{Column}
use Rattle.fbl_history.specs.declared.column.Column.TheVariants.{Strike, Checkpoint}
use Rattle.fbl_history.specs.Traces.{go_on_to, start_columns, IsAfterRecovery, IsHistoryOf}
use Rattle.fbl_history.specs.Turns.{IsAfterTurns, IsLedTo}
use Rattle.fbl_input.specs.declared.output.OutputFault.{OutputFault}
use Rattle.fbl_input.specs.declared.output.OutputFault.TheVariants as faults
use Rattle.fbl_law.specs.Groups.{GroupRecord}
use Rattle.fbl_scripts.specs.declared.answer.Answer.{Answer}
use Rattle.fbl_scripts.specs.declared.answer.Answer.TheVariants as answers
use Rattle.fbl_scripts.specs.Texts.{IsText}

-- what a writer has, if that is known, or the columns of the history, once it has begun
pub data Transcript : Type 0 where
  text : Option (List ℕ) → Transcript
  history : Option (List Column) → Transcript

-- the transcript of a run that begins with this new group: nothing is written, and the history has the sends of its starts
abbrev pub IsBegun : Next ℕ Note → GroupRecord ℕ Note → Transcript → Transcript → Type 0
IsBegun next r (text had) (text has) = has ≡ had
IsBegun next r (history had) (history has) = has ≡ Some (start_columns r.config.starts)
IsBegun next r _ _ = ⊥

-- the history after a command with this answer, which left the group like this: it goes on to the group after a delivery, over the
-- turns of a run, and has a column of a strike, a recovery or a checkpoint; any other command adds nothing, and no refused one does
abbrev pub GoesOn : Next ℕ Note → GroupRecord ℕ Note → Answer → List Column → List Column → Type 0
GoesOn next r (answers.Delivery to from receipt) old new = new ≡ go_on_to next old r
GoesOn next r (answers.Run recorded _ _ _ _) old new = IsAfterTurns next r recorded.turns.items old new
GoesOn next r (answers.Strike members _ _ _) old new = new ≡ old ++ Strike members ∷ []
GoesOn next r (answers.Recovery members _ _) old new = IsAfterRecovery next r members old new
GoesOn next r (answers.Checkpoint p received) old new = new ≡ old ++ Checkpoint p ∷ []
GoesOn next r _ old new = new ≡ old

-- where the transcript is a history, it is one of the group
abbrev pub IsOfGroup : Next ℕ Note → GroupRecord ℕ Note → Transcript → Type 0
IsOfGroup next r (text had) = Unit {0}
IsOfGroup next r (history None) = Unit {0}
IsOfGroup next r (history (Some columns)) = IsHistoryOf next r columns

-- where the answer is of a run and the transcript is a history, the run's turns lead to the group from one of which it is a history
abbrev pub IsLedOn : Next ℕ Note → GroupRecord ℕ Note → Answer → Transcript → Type 0
IsLedOn next r (answers.Run recorded _ _ _ _) (history (Some columns)) = ∥ IsLedTo next columns recorded.turns.items r ∥₁
IsLedOn next r _ _ = Unit {0}

-- a command with this answer, which left the group like this, is added: its text is written, or the history goes on
abbrev pub IsAdded : Next ℕ Note → GroupRecord ℕ Note → Answer → Transcript → Transcript → Type 0
IsAdded next r answer (text had) (text has) = (lines : List ℕ) × IsText r answer lines × Appends had has lines
IsAdded next r answer (history (Some old)) (history (Some new)) = GoesOn next r answer old new
IsAdded next r answer _ _ = ⊥

-- it could not be added: of its text nothing is written where memory ran out, and a proper prefix where a write failed
abbrev pub IsCut : GroupRecord ℕ Note → Answer → OutputFault → Transcript → Transcript → Type 0
IsCut r answer faults.Memory (text had) (text has) = has ≡ had
IsCut r answer faults.Write (text had) (text has) = (lines : List ℕ) × (part : ℕ) × IsText r answer lines × (part < length lines) × Appends had has (take part lines)
IsCut r answer faults.Memory (history had) (history has) = Unit {0}
IsCut r answer _ _ _ = ⊥
