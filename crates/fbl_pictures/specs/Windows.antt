-- The part of a run that is drawn, and what is drawn in it of lines and arrows that go beyond.
use Rattle.std.specs.Prelude.{ℕ, ◌+◌, ◌-◌, ◌||◌, Bool, min, nat_le, nat_lt, true, false, Option, Some, None, option_and_then, if◌then◌else◌}
use Rattle.fbl_runs.specs.declared.control.ControlMessage.{ControlMessage}
use Rattle.fbl_history.specs.declared.shape.ArrowKind.{ArrowKind}
use Rattle.fbl_history.specs.declared.shape.LineKind.{LineKind}
use Rattle.fbl_history.specs.declared.shape.LineKind.TheVariants.{Down, Orphan, Up}
use Rattle.fbl_history.specs.declared.shape.Shape.{Shape}
use Rattle.fbl_history.specs.declared.shape.Shape.TheVariants as shape
use Rattle.fbl_pictures.specs.declared.run.window.Window.{Window}

-- of so many entries those from 30 before a place to 30 behind it, in numbered columns; or all
abbrev pub window_around : ℕ → Option ℕ → Window
window_around count None = record { first = 0; end = count; is_numbered = false }
window_around count (Some place) = record { first = place - 30; end = min count (place + 31); is_numbered = true }

-- the column of the entry at a place, if it is drawn
abbrev pub column_of : Window → ℕ → Option ℕ
column_of w place = if (nat_lt place w.first || nat_le w.end place) then None else Some (place - w.first)

-- the column before which something stands that stands before the entry at a place: the end is behind the last one
abbrev pub edge_of : Window → ℕ → Option ℕ
edge_of w place = if (nat_lt place w.first || nat_lt w.end place) then None else Some (place - w.first)

-- ---- arrows

-- an arrow where both its ends are drawn, a stub where one is, and nothing where none is
abbrev pub arrow_between : ℕ → Option ℕ → ℕ → Option ℕ → ArrowKind → Option Shape
arrow_between from (Some sent) to (Some received) kind = Some (shape.Arrow from sent to received kind)
arrow_between from (Some sent) to None kind = Some (shape.Leaving from sent to kind)
arrow_between from None to (Some received) kind = Some (shape.Arriving from to received kind)
arrow_between from None to None kind = None

-- an arrow between the entries at two places
abbrev pub arrow_within : Window → ℕ → ℕ → ℕ → ℕ → ArrowKind → Option Shape
arrow_within w from sent to received kind = arrow_between from (column_of w sent) to (column_of w received) kind

-- a message in flight that is sent at a place, by a send that is undone or not, and a control message that is told at one and that nobody has taken
abbrev pub in_flight_within : Window → Bool → ℕ → ℕ → ℕ → Option Shape
in_flight_within w undone from sent to = option_and_then (λ column. Some (shape.InFlight from column to false undone)) (column_of w sent)

abbrev pub untaken_within : Window → ControlMessage → ℕ → Option Shape
untaken_within w m sent = option_and_then (λ column. Some (shape.Untaken m.from column m.to)) (column_of w sent)

-- ---- lines

-- a member's line
abbrev pub member_line_within : Window → ℕ → LineKind → Shape
member_line_within w member kind = shape.Line member None (w.end - w.first) kind

-- that of one that is down from the moment before the entry at a place on
abbrev pub down_at : Window → ℕ → Option ℕ → Shape
down_at w member None = member_line_within w member Up
down_at w member (Some column) = shape.DownFrom member column (w.end - w.first)

abbrev pub down_within : Window → ℕ → ℕ → Shape
down_within w member place = if nat_lt place w.first then member_line_within w member Down else down_at w member (edge_of w place)

-- the column at which the part of a line starts that starts at the entry at a place: the left end if that is before
abbrev pub start_within : Window → ℕ → Option ℕ
start_within w place = if nat_lt place w.first then None else Some (place - w.first)

-- the part of a member's line between the entries at two places
abbrev pub line_within : Window → ℕ → ℕ → ℕ → LineKind → Option Shape
line_within w member start end kind =
    if (nat_lt end w.first || nat_le w.end start) then None else Some (shape.Line member (start_within w start) (min end w.end - w.first) kind)

-- the same from the left end on, where there is no first entry
abbrev pub part_within : Window → ℕ → Option ℕ → ℕ → LineKind → Option Shape
part_within w member None end kind = if nat_lt end w.first then None else Some (shape.Line member None (min end w.end - w.first) kind)
part_within w member (Some start) end kind = line_within w member start end kind

-- an orphan's line from the entry at a place up to the moment before the entry at another
abbrev pub orphan_at : Window → ℕ → ℕ → ℕ → Option ℕ → Option Shape
orphan_at w member start place None = line_within w member start place Orphan
orphan_at w member start place (Some column) = Some (shape.OrphanUpTo member (start_within w start) column)

abbrev pub orphan_within : Window → ℕ → ℕ → ℕ → Option Shape
orphan_within w member start place = orphan_at w member start place (edge_of w place)

-- the moment before the entry at a place, across a member's line, and before another one at the next member's
abbrev pub moment_within : Window → ℕ → ℕ → Option ℕ → Option Shape
moment_within w member place next = option_and_then (λ column. Some (shape.Moment member column (option_and_then (edge_of w) next))) (edge_of w place)

-- ---- numbers

-- the numbers of the columns: the places of their entries, above the columns
abbrev pub numbers_of : Window → Option Shape
numbers_of w = if w.is_numbered then Some (shape.Numbers w.first (w.end - w.first)) else None
