-- The marks of the columns.
use Rattle.std.specs.Prelude.{ℕ, false, List, [], ◌∷◌, Option, Some, None, map}
use Rattle.std.specs.Option.{option_to_list}
use Rattle.fbl_trace.specs.MemberSets.{member_list}
use Rattle.fbl_history.specs.declared.column.Column.{Column}
use Rattle.fbl_history.specs.declared.column.Replay.{Replay}
use Rattle.fbl_history.specs.declared.column.Column.TheVariants as columns
use Rattle.fbl_history.specs.declared.shape.Glyph.{Glyph}
use Rattle.fbl_history.specs.declared.shape.GlyphKind.{GlyphKind}
use Rattle.fbl_history.specs.declared.shape.GlyphKind.TheVariants.{Checkpoint, Receipt, Recovery, Send, Strike}

abbrev pub mark : ℕ → ℕ → GlyphKind → Glyph
mark place member kind = record { column = place; member = member; kind = kind; to_come = false }

abbrev pub strike_mark : ℕ → ℕ → Glyph
strike_mark place member = mark place member Strike

abbrev pub recovery_mark : ℕ → Replay → Glyph
recovery_mark place replay = mark place replay.member (Recovery replay.receipts)

-- the mark of an event, crossed where the event is undone; what is no event has none
abbrev pub event_mark : ℕ → Column → Option Glyph
event_mark place (columns.Send from ssn to undone) = Some (mark place from (Send ssn to undone))
event_mark place (columns.Receipt to rsn from ssn state undone) =
    Some (mark place to (Receipt (record { from = from; ssn = ssn; to = to; rsn = rsn }) state undone))
event_mark place _ = None

-- the marks of a column: one of an event or a checkpoint, one for each member that is struck, and one for each that is brought back
abbrev pub column_marks : ℕ → Column → List Glyph
column_marks place (columns.Strike struck) = map (strike_mark place) (member_list struck)
column_marks place (columns.Recovery replays) = map (recovery_mark place) replays.items
column_marks place (columns.Checkpoint member) = mark place member Checkpoint ∷ []
column_marks place event = option_to_list (event_mark place event)
