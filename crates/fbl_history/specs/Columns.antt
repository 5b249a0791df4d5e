-- The columns of a history, and how a history goes on to a trace.
use Rattle.std.specs.Prelude.{◌≡◌, ◌<◌, ◌⊎◌, ◌==◌, ◌&&◌, ℕ, not, Bool, true, false, List, [], ◌∷◌, Some, count_by, drop, slice_get, if◌then◌else◌}
use Rattle.std.specs.List.{filter, list_any}
use Rattle.fbl_history.specs.declared.column.Column.{Column}
use Rattle.fbl_history.specs.declared.column.Column.TheVariants.{Send, Receipt}

-- whether the column is of an event that is not undone: a standing event
abbrev pub is_standing : Column → Bool
is_standing (Send from ssn to undone) = not undone
is_standing (Receipt to rsn from ssn state undone) = not undone
is_standing _ = false

-- the column, its event undone
abbrev pub undo : Column → Column
undo (Send from ssn to undone) = Send from ssn to true
undo (Receipt to rsn from ssn state undone) = Receipt to rsn from ssn state true
undo column = column

-- whether both columns are of the same standing event, with the same state
abbrev pub same_standing : Column → Column → Bool
same_standing (Send from ssn to false) (Send from' ssn' to' false) = from == from' && (ssn == ssn' && to == to')
same_standing (Receipt to rsn from ssn state false) (Receipt to' rsn' from' ssn' state' false) =
    to == to' && (rsn == rsn' && (from == from' && (ssn == ssn' && state == state')))
same_standing _ _ = false

-- the columns of the standing events, in order
abbrev pub standing : List Column → List Column
standing columns = filter is_standing columns

-- whether the column is of the next event of what is left of a trace, given by the columns of its events
abbrev pub is_next : Column → List Column → Bool
is_next column [] = false
is_next column (event ∷ trace) = same_standing column event

-- a column, where this is left of the trace: a standing event that is not the next one is undone
abbrev pub column_then : Column → List Column → Column
column_then column trace = if is_standing column && not (is_next column trace) then undo column else column

-- what the column leaves of the trace: its next event is taken
abbrev pub trace_then : Column → List Column → List Column
trace_then column trace = if is_next column trace then drop 1 trace else trace

-- the history goes on to a trace: in turn each standing event that is the next of the trace stays and each other one is
-- undone, and what the trace has left was made
abbrev pub go_on : List Column → List Column → List Column
go_on [] trace = trace
go_on (column ∷ columns) trace = column_then column trace ∷ go_on columns (trace_then column trace)

-- the second columns are the first ones, of which standing events may be undone, and then any others
abbrev pub GoesOnFrom : List Column → List Column → Type 0
GoesOnFrom [] new = Unit {0}
GoesOnFrom (column ∷ columns) [] = ⊥
GoesOnFrom (column ∷ columns) (c ∷ new) =
    ((c ≡ column) ⊎ ((is_standing column ≡ true) × (c ≡ undo column))) × GoesOnFrom columns new

-- the column, undone where it is a standing event that the trace hasn't
abbrev pub undone_without : List Column → Column → Column
undone_without trace column = if is_standing column && not (list_any (same_standing column) trace) then undo column else column

-- no two of the columns are of the same standing event
abbrev pub HasEachOnce : List Column → Type 0
HasEachOnce columns =
    (i j : ℕ) (a b : Column) → slice_get columns i ≡ Some a → slice_get columns j ≡ Some b → same_standing a b ≡ true → i ≡ j

-- whether the column is of a receipt, undone or not
abbrev pub is_receipt : Column → Bool
is_receipt (Receipt to rsn from ssn state undone) = true
is_receipt _ = false

-- whether the column is of a send of the member, undone or not
abbrev pub is_sent_by : ℕ → Column → Bool
is_sent_by member (Send from ssn to undone) = from == member
is_sent_by member _ = false

-- each receipt, undone or not, comes after a send of its message
abbrev pub ReceiptsFollowSends : List Column → Type 0
ReceiptsFollowSends columns =
    (place to rsn from ssn state : ℕ) (undone : Bool) → slice_get columns place ≡ Some (Receipt to rsn from ssn state undone)
    → (sent : ℕ) × (sent < place) × (gone : Bool) × (slice_get columns sent ≡ Some (Send from ssn to gone))

-- ---- receipts counted

-- how many receipts were ever made
abbrev pub receipts_made : List Column → ℕ
receipts_made columns = count_by is_receipt columns

-- whether the column is of a receipt that is undone
abbrev pub is_undone_receipt : Column → Bool
is_undone_receipt (Receipt to rsn from ssn state undone) = undone
is_undone_receipt _ = false

-- how many of them were undone
abbrev pub receipts_undone : List Column → ℕ
receipts_undone columns = count_by is_undone_receipt columns
