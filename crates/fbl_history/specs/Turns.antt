-- The history of a run of workers, by the records of its turns.
use Rattle.std.specs.Prelude.{◌≡◌, ℕ, ◌-◌, Bool, false, List, [], ◌∷◌, ◌++◌, length, map, nat_lt, slice_index, Option, Some, None, if◌then◌else◌}
use Rattle.std.specs.List.{filter_map}
use Rattle.fbl_trace.specs.declared.trace.Note.{Note}
use Rattle.fbl_trace.specs.declared.outcome.Outcome.{Outcome}
use Rattle.fbl_trace.specs.declared.ticket.Ticket.{Ticket}
use Rattle.fbl_trace.specs.Fold.{Next, step_events}
use Rattle.fbl_trace.specs.MemberSets.{Members}
use Rattle.fbl_group.specs.declared.answers.CrashRecord.{CrashRecord}
use Rattle.fbl_group.specs.declared.answers.RecoveryRecord.{RecoveryRecord}
use Rattle.fbl_group.specs.declared.answers.TurnRecord.{TurnRecord}
use Rattle.fbl_group.specs.Records.{TurnsLead}
use Rattle.fbl_law.specs.Groups.{GroupRecord, IsSound}
use Rattle.fbl_history.specs.declared.column.Column.{Column}
use Rattle.fbl_history.specs.declared.column.Column.TheVariants.{Send, Receipt, Strike}
use Rattle.fbl_history.specs.Columns.{undo}
use Rattle.fbl_history.specs.Traces.{send_column, IsHistoryOf, IsRecoveryColumn}

-- the columns of a step, by its ticket, what it answers and how many messages its member has sent after it: the receipt, with the state
-- after it, and the sends
abbrev pub step_columns : Ticket ℕ Note → Outcome ℕ Note → ℕ → List Column
step_columns t outcome sent =
    Receipt t.to t.rsn t.from t.ssn outcome.state false ∷ filter_map send_column (step_events t.to (sent - length outcome.sends.items) outcome.sends.items)

-- the columns of a turn's step
abbrev pub turn_columns : Next ℕ Note → TurnRecord ℕ Note → List Column
turn_columns next t = step_columns t.ticket (next.step t.ticket.to t.ticket.n t.ticket.state t.ticket.note) t.sent

-- whether the event is beyond the first so many receipts and sends of its member
abbrev pub is_beyond : (ℕ → ℕ) → (ℕ → ℕ) → Column → Bool
is_beyond received sent (Send from ssn to undone) = nat_lt (sent from) ssn
is_beyond received sent (Receipt to rsn from ssn state undone) = nat_lt (received to) rsn
is_beyond received sent _ = false

-- the column after a recovery that left each member so many receipts and sends: its later events are undone
abbrev pub undone_beyond : (ℕ → ℕ) → (ℕ → ℕ) → Column → Column
undone_beyond received sent column = if is_beyond received sent column then undo column else column

-- the history after a recovery of these members, if there was one; the checkpoints are those of the group
abbrev pub IsAfterRecoveryRecord : GroupRecord ℕ Note → Members → Option RecoveryRecord → List Column → List Column → Type 0
IsAfterRecoveryRecord r members None old new = new ≡ old
IsAfterRecoveryRecord r members (Some recovery) old new =
    (column : Column) × IsRecoveryColumn r (slice_index recovery.received.items) members column
    × (new ≡ map (undone_beyond (slice_index recovery.received.items) (slice_index recovery.sent.items)) old ++ column ∷ [])

-- the history after a crash, if there was one: it has the strike's column, and then what the recovery makes of it
abbrev pub IsAfterCrash : GroupRecord ℕ Note → Option CrashRecord → List Column → List Column → Type 0
IsAfterCrash r None old new = new ≡ old
IsAfterCrash r (Some crash) old new = IsAfterRecoveryRecord r crash.set crash.recovery (old ++ Strike crash.set ∷ []) new

-- the history after a turn: it has the columns of the turn's step, and then what its crash makes of it
abbrev pub IsAfterTurn : Next ℕ Note → GroupRecord ℕ Note → TurnRecord ℕ Note → List Column → List Column → Type 0
IsAfterTurn next r t old new = IsAfterCrash r t.crash (old ++ turn_columns next t) new

-- the history after these turns
abbrev pub IsAfterTurns : Next ℕ Note → GroupRecord ℕ Note → List (TurnRecord ℕ Note) → List Column → List Column → Type 0
IsAfterTurns next r [] old new = new ≡ old
IsAfterTurns next r (t ∷ turns) old new = (mid : List Column) × IsAfterTurn next r t old mid × IsAfterTurns next r turns mid new

-- the turns lead to this group from one that is sound and of which this is a history
pub record IsLedTo (next : Next ℕ Note) (columns : List Column) (turns : List (TurnRecord ℕ Note)) (new : GroupRecord ℕ Note) : Type 0 where
  pub old : GroupRecord ℕ Note
  pub sound : IsSound next old
  pub history : IsHistoryOf next old columns
  pub lead : TurnsLead next old turns new
