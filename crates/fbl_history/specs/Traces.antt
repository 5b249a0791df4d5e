-- The columns of a trace's events, and those of strikes, recoveries and checkpoints.
use Rattle.std.specs.Prelude.{◌≡◌, ℕ, ◌-◌, false, List, [], ◌∷◌, ◌++◌, map, take, Option, Some, None}
use Rattle.std.specs.List.{filter_map}
use Rattle.fbl_trace.specs.declared.trace.Note.{Note}
use Rattle.fbl_trace.specs.declared.trace.Event.{Event}
use Rattle.fbl_trace.specs.declared.trace.Start.{Start}
use Rattle.fbl_trace.specs.declared.trace.Event.TheVariants as event
use Rattle.fbl_trace.specs.Fold.{Next, state_after}
use Rattle.fbl_trace.specs.MemberSets.{member_list, Members}
use Rattle.fbl_law.specs.GroupSteps.{start_events}
use Rattle.fbl_law.specs.Groups.{GroupRecord, member, member_checkpoint, received_notes}
use Rattle.fbl_history.specs.declared.column.Column.{Column}
use Rattle.fbl_history.specs.declared.column.Column.TheVariants.{Send, Receipt, Recovery}
use Rattle.fbl_history.specs.declared.column.Replay.{Replay}
use Rattle.fbl_history.specs.Columns.{go_on, receipts_made, receipts_undone, standing}

-- the receiver's state after its receipt with this number: what the steps make of the notes of its receipts up to it
abbrev pub state_after_receipt : Next ℕ Note → ℕ → List (Event Note) → ℕ → ℕ → ℕ
state_after_receipt next n trace to rsn = state_after next to n (take rsn (received_notes trace to))

-- the column of an event of a trace, of n members
abbrev pub event_column : Next ℕ Note → ℕ → List (Event Note) → Event Note → Column
event_column next n trace (event.Send from ssn to note) = Send from ssn to false
event_column next n trace (event.Receipt to rsn from ssn) = Receipt to rsn from ssn (state_after_receipt next n trace to rsn) false

-- the columns of the events of a group's trace, in order
abbrev pub trace_columns : Next ℕ Note → GroupRecord ℕ Note → List Column
trace_columns next r = map (event_column next r.config.members r.trace) r.trace

-- the history goes on to a group: to its trace
abbrev pub go_on_to : Next ℕ Note → List Column → GroupRecord ℕ Note → List Column
go_on_to next columns r = go_on columns (trace_columns next r)

-- the columns count the receipts that the group ever made, and those that were ever undone
abbrev pub CountsReceipts : GroupRecord ℕ Note → List Column → Type 0
CountsReceipts r columns = (receipts_made columns ≡ r.receipts_ever) × (receipts_undone columns ≡ r.undone_ever)

-- the history is one of a group: its standing events are exactly the group's trace, in its order, and it counts the group's receipts
pub record IsHistoryOf (next : Next ℕ Note) (r : GroupRecord ℕ Note) (columns : List Column) : Type 0 where
  pub standing : standing columns ≡ trace_columns next r
  pub counted : CountsReceipts r columns

-- the column of a send; a receipt has none here
abbrev pub send_column : Event Note → Option Column
send_column (event.Send from ssn to note) = Some (Send from ssn to false)
send_column (event.Receipt to rsn from ssn) = None

-- the columns of a new group's trace: the sends of its starts
abbrev pub start_columns : List (Start Note) → List Column
start_columns starts = filter_map send_column (start_events [] starts)

-- the second columns count as many receipts as the first ones
abbrev pub CountsAsBefore : List Column → List Column → Type 0
CountsAsBefore old new = (receipts_made new ≡ receipts_made old) × (receipts_undone new ≡ receipts_undone old)

-- the replay of a member in a recovery after which each has so many receipts: those beyond its checkpoint
abbrev pub replay_of : GroupRecord ℕ Note → (ℕ → ℕ) → ℕ → Replay
replay_of r received m = record { member = m; receipts = received m - (member_checkpoint r m).received }

-- the replays of these members, in member order
abbrev pub replays_of : GroupRecord ℕ Note → (ℕ → ℕ) → Members → List Replay
replays_of r received members = map (replay_of r received) (member_list members)

-- the column of a recovery of these members after which each has so many receipts
abbrev pub IsRecoveryColumn : GroupRecord ℕ Note → (ℕ → ℕ) → Members → Column → Type 0
IsRecoveryColumn r received members (Recovery replays) = replays.items ≡ replays_of r received members
IsRecoveryColumn r received members _ = ⊥

-- the history after a recovery of these members that left the group like this: it goes on to the group, and has the recovery's column
abbrev pub IsAfterRecovery : Next ℕ Note → GroupRecord ℕ Note → Members → List Column → List Column → Type 0
IsAfterRecovery next r members old new =
    (column : Column) × IsRecoveryColumn r (λ m. (member r m).received) members column × (new ≡ go_on_to next old r ++ column ∷ [])
