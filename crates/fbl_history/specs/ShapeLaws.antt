-- What the picture of a history shows, said of the history alone: a mark for each event, an arrow for each receipt, and lines that
-- are dashed while their member is down.
use Rattle.std.specs.Prelude.{◌≡◌, ℕ, ◌<◌, ◌≤◌, ◌⊎◌, ◌↔◌, ◌==◌, ◌&&◌, ◌||◌, not, nat_lt, Bool, true, false, List, [], ◌∷◌, length, Option, Some, None, slice_get}
use Rattle.std.specs.List.{filter}
use Rattle.std.specs.FinSet as set
use Rattle.std.specs.Option.{option_to_list}
use Rattle.fbl_history.specs.declared.column.Column.{Column}
use Rattle.fbl_history.specs.declared.column.Column.TheVariants as columns
use Rattle.fbl_history.specs.declared.shape.Glyph.{Glyph}
use Rattle.fbl_history.specs.declared.shape.GlyphKind.{GlyphKind}
use Rattle.fbl_history.specs.declared.shape.GlyphKind.TheVariants as glyphs
use Rattle.fbl_history.specs.declared.shape.LineKind.TheVariants as line_kinds
use Rattle.fbl_history.specs.declared.shape.Shape.{Shape}
use Rattle.fbl_history.specs.declared.shape.Shape.TheVariants as shapes
use Rattle.fbl_history.specs.MemberLines.{is_back}
use Rattle.fbl_history.specs.Arrows.{arrow_kind}
use Rattle.fbl_history.specs.HistoryShapes.{history_marks, history_shapes}
use Rattle.fbl_history.specs.Marks.{event_mark}

-- ---- events

-- whether the glyph is that of an event
abbrev pub is_event : GlyphKind → Bool
is_event (glyphs.Send ssn to undone) = true
is_event (glyphs.Receipt determinant state undone) = true
is_event _ = false

-- whether the mark is that of an event in this column
abbrev pub is_mark_in : ℕ → Glyph → Bool
is_mark_in place mark = mark.column == place && is_event mark.kind

-- each event that stands has one mark in its column, each undone one its crossed mark, and other columns have no such mark
abbrev pub MarksEachEvent : List Column → Type 0
MarksEachEvent history =
    (place : ℕ) (column : Column) → slice_get history place ≡ Some column
    → filter (is_mark_in place) (history_marks history) ≡ option_to_list (event_mark place column)

-- ---- messages

-- the column sends the message, undone or not
abbrev pub IsSentAt : List Column → ℕ → ℕ → ℕ → Type 0
IsSentAt history from ssn place = (to : ℕ) × (undone : Bool) × (slice_get history place ≡ Some (columns.Send from ssn to undone))

-- the column is the last one before a place that sends the message
abbrev pub IsLastSend : List Column → ℕ → ℕ → ℕ → ℕ → Type 0
IsLastSend history from ssn place sent =
    (sent < place) × IsSentAt history from ssn sent × ((later : ℕ) → sent < later → later < place → ¬ (IsSentAt history from ssn later))

-- the column is of a recovery of the sender or the receiver, which sends again what was lost between them
abbrev pub IsSentAgainAt : List Column → ℕ → ℕ → ℕ → Type 0
IsSentAgainAt history from to place =
    (replays : _) × (slice_get history place ≡ Some (columns.Recovery replays)) × ((is_back from replays.items || is_back to replays.items) ≡ true)

-- the message that is received at a place is sent at this one: by the last send before the receipt, or again by a recovery
-- between the two
abbrev pub ComesFromItsSend : List Column → ℕ → ℕ → ℕ → ℕ → ℕ → Bool → Type 0
ComesFromItsSend history from ssn to place start again =
    (sent : ℕ) × IsLastSend history from ssn place sent
    × (((again ≡ false) × (start ≡ sent)) ⊎ ((again ≡ true) × (sent < start) × (start < place) × IsSentAgainAt history from to start))

-- whether the shape is an arrow that ends in this column
abbrev pub is_arrow_to : ℕ → Shape → Bool
is_arrow_to place (shapes.Arrow from sent to received kind) = received == place
is_arrow_to place _ = false

-- each receipt has one arrow, which comes from the send of its message
abbrev pub HasArrowFromItsSend : ℕ → List Column → Type 0
HasArrowFromItsSend members history =
    (place to rsn from ssn state : ℕ) (undone : Bool) → slice_get history place ≡ Some (columns.Receipt to rsn from ssn state undone)
    → (start : ℕ) × (again : Bool) × ComesFromItsSend history from ssn to place start again
    × (filter (is_arrow_to place) (history_shapes members history) ≡ shapes.Arrow from start to place (arrow_kind again undone) ∷ [])

-- ---- members

-- the column is of a strike of the member
abbrev pub IsStruckAt : List Column → ℕ → ℕ → Type 0
IsStruckAt history member place = (struck : _) × (slice_get history place ≡ Some (columns.Strike struck)) × (set.contains struck member ≡ true)

-- the column is of a recovery of the member
abbrev pub IsRecoveredAt : List Column → ℕ → ℕ → Type 0
IsRecoveredAt history member place = (replays : _) × (slice_get history place ≡ Some (columns.Recovery replays)) × (is_back member replays.items ≡ true)

-- the member is struck before a column, and not recovered between the two
abbrev pub IsDownBefore : List Column → ℕ → ℕ → Type 0
IsDownBefore history member place =
    (strike : ℕ) × (strike < place) × IsStruckAt history member strike
    × ((recovery : ℕ) → strike < recovery → recovery < place → ¬ (IsRecoveredAt history member recovery))

-- whether a part of a line that starts here, or at the left end, starts before a column
abbrev pub is_before : ℕ → Option ℕ → Bool
is_before place None = true
is_before place (Some start) = nat_lt start place

-- whether the shape is a part of the member's line that leads up to a column from the one before it, or from the left end
abbrev pub leads_to : ℕ → ℕ → Shape → Bool
leads_to member place (shapes.Line other start end kind) = other == member && (is_before place start && not (nat_lt end place))
leads_to member place _ = false

-- whether the shape is a part of a line that is dashed
abbrev pub is_dashed : Shape → Bool
is_dashed (shapes.Line member start end line_kinds.Down) = true
is_dashed _ = false

-- one part of the member's line leads up to each column, and to the end behind the last one; it is dashed exactly where the member
-- is down: from its strike to its recovery
abbrev pub IsDashedWhileDown : ℕ → List Column → Type 0
IsDashedWhileDown members history =
    (member place : ℕ) → member < members → place ≤ length history
    → (part : Shape) × (filter (leads_to member place) (history_shapes members history) ≡ part ∷ []) × ((is_dashed part ≡ true) ↔ IsDownBefore history member place)
