-- The arrows of messages, from where they are sent to where they are received. What is in flight from or to a member is lost when
-- it is struck: the recovery that brings the member back sends it again.
use Rattle.std.specs.Prelude.{ℕ, zero, suc, Bool, true, false, List, length, Option, Some, None, max, nat_lt, slice_get, if◌then◌else◌}
use Rattle.std.specs.List.{list_any}
use Rattle.std.specs.Option.{option_to_list}
use Rattle.fbl_trace.specs.Events.{is_message}
use Rattle.fbl_history.specs.declared.column.Column.{Column}
use Rattle.fbl_history.specs.declared.column.Column.TheVariants as columns
use Rattle.fbl_history.specs.declared.shape.ArrowKind.{ArrowKind}
use Rattle.fbl_history.specs.declared.shape.ArrowKind.TheVariants as arrows
use Rattle.fbl_history.specs.declared.shape.Shape.{Shape}
use Rattle.fbl_history.specs.declared.shape.Shape.TheVariants as shapes
use Rattle.fbl_trace.specs.declared.trace.MessageName.{MessageName}
use Rattle.fbl_history.specs.MemberLines.{brings_back}

-- the last place before this one that passes the test
abbrev pub last_before : (ℕ → Bool) → ℕ → Option ℕ
last_before test zero = None
last_before test (suc place) = if test place then Some place else last_before test place

-- the later one of two places, of which there may be none
abbrev pub later : Option ℕ → Option ℕ → Option ℕ
later None second = second
later (Some first) None = Some first
later (Some first) (Some second) = Some (max first second)

-- the message that a column sends, undone or not
abbrev pub sent_by_column : Column → Option MessageName
sent_by_column (columns.Send from ssn to undone) = Some (record { from = from; ssn = ssn })
sent_by_column _ = None

-- the message that a column receives, if the receipt stands
abbrev pub taken_by_column : Column → Option MessageName
taken_by_column (columns.Receipt to rsn from ssn state false) = Some (record { from = from; ssn = ssn })
taken_by_column _ = None

-- ---- where messages are sent

-- whether there is a column, and it sends the message
abbrev pub sends : MessageName → Option Column → Bool
sends message None = false
sends message (Some column) = is_message message (sent_by_column column)

-- where a message was sent that is received at a place: the last column before it that sends the message. One that was sent,
-- undone and sent again stands at two columns
abbrev pub sent_before : List Column → ℕ → MessageName → Option ℕ
sent_before columns place message = last_before (λ k. sends message (slice_get columns k)) place

-- whether there is a column, and it is of a recovery that brings the member back
abbrev pub is_comeback : ℕ → Option Column → Bool
is_comeback member None = false
is_comeback member (Some column) = brings_back member column

-- the last recovery before a place that brings the member back
abbrev pub back_before : List Column → ℕ → ℕ → Option ℕ
back_before columns place member = last_before (λ k. is_comeback member (slice_get columns k)) place

-- ---- arrows

-- how an arrow is drawn, by whether its message is sent again and whether the receipt was undone
abbrev pub arrow_kind : Bool → Bool → ArrowKind
arrow_kind false false = arrows.Message
arrow_kind false true = arrows.Undone
arrow_kind true false = arrows.Again
arrow_kind true true = arrows.AgainUndone

-- where a message is sent that is sent at a place, and one of whose ends a recovery last brought back at another: at the later one,
-- where the copy is sent that is received
abbrev pub last_sent : ℕ → Option ℕ → ℕ
last_sent sent None = sent
last_sent sent (Some back) = max sent back

abbrev pub arrow_between : Option ℕ → Option ℕ → ℕ → ℕ → ℕ → Bool → Option Shape
arrow_between None back from to place undone = None
arrow_between (Some sent) back from to place undone =
    let start = last_sent sent back in Some (shapes.Arrow from start to place (arrow_kind (nat_lt sent start) undone))

-- the arrow to a column that is a receipt, undone or not, from where its message was sent or sent again
abbrev pub arrow_from : (MessageName → Option ℕ) → (ℕ → Option ℕ) → ℕ → Column → Option Shape
arrow_from sent back place (columns.Receipt to rsn from ssn state undone) =
    arrow_between (sent (record { from = from; ssn = ssn })) (later (back from) (back to)) from to place undone
arrow_from sent back place _ = None

abbrev pub receipt_arrow : List Column → ℕ → Column → List Shape
receipt_arrow columns place column = option_to_list (arrow_from (sent_before columns place) (back_before columns place) place column)

-- ---- messages in flight

-- whether a receipt of the message stands
abbrev pub has_standing_receipt : List Column → MessageName → Bool
has_standing_receipt columns message = list_any (λ column. is_message message (taken_by_column column)) columns

-- the stub of a send whose message nobody has received in the end: an undone one, or one that stands, where the message isn't received.
-- It was sent again if a recovery behind the send brings one of its ends back
abbrev pub stub_where : (MessageName → Bool) → (ℕ → Option ℕ) → ℕ → Column → Option Shape
stub_where received back place (columns.Send from ssn to true) = Some (shapes.InFlight from place to false true)
stub_where received back place (columns.Send from ssn to false) =
    if received (record { from = from; ssn = ssn }) then None else Some
    (shapes.InFlight from place to (nat_lt place (last_sent place (later (back from) (back to)))) false)
stub_where received back place _ = None

abbrev pub stub : List Column → ℕ → Column → List Shape
stub columns place column = option_to_list (stub_where (has_standing_receipt columns) (back_before columns (length columns)) place column)
