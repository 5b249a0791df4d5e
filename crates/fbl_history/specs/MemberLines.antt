-- The members' lines: when each is down.
use Rattle.std.specs.Prelude.{ℕ, ◌+◌, Bool, false, not, ◌==◌, ◌&&◌, ◌||◌, List, [], ◌∷◌, ◌++◌, length, Option, Some, None, if◌then◌else◌}
use Rattle.std.specs.Bool.{beq}
use Rattle.std.specs.List.{flat_map, list_any, range_with_len}
use Rattle.std.specs.FinSet as set
use Rattle.fbl_history.specs.declared.column.Column.{Column}
use Rattle.fbl_history.specs.declared.column.Column.TheVariants as columns
use Rattle.fbl_history.specs.declared.column.Replay.{Replay}
use Rattle.fbl_history.specs.declared.shape.Shape.{Shape}
use Rattle.fbl_history.specs.declared.shape.Shape.TheVariants as shapes
use Rattle.fbl_history.specs.Names.{label_and_names}
use Rattle.fbl_history.specs.Shapes.{line_kind_of}

-- whether a member is among those that came back
abbrev pub is_back : ℕ → List Replay → Bool
is_back member replays = list_any (λ replay. replay.member == member) replays

-- whether the column is of a strike of the member
abbrev pub strikes : ℕ → Column → Bool
strikes member (columns.Strike struck) = set.contains struck member
strikes member _ = false

-- whether the column is of a recovery that brings the member back
abbrev pub brings_back : ℕ → Column → Bool
brings_back member (columns.Recovery replays) = is_back member replays.items
brings_back member _ = false

-- whether a member is down after a column, where it was down before it or not
abbrev pub is_down_after : ℕ → Bool → Column → Bool
is_down_after member was_down column = strikes member column || (was_down && not (brings_back member column))

-- the parts of a member's line from a column on, of which the first starts at a place or at the left end, where the member is down
-- before the column or not: a part ends at each column at which the member goes down or comes back, and the last one at the end
abbrev pub line_parts : ℕ → Option ℕ → Bool → ℕ → List Column → List Shape
line_parts member start down place [] = shapes.Line member start place (line_kind_of down) ∷ []
line_parts member start down place (column ∷ columns) =
    let after = is_down_after member down column in
    if not (beq after down) then shapes.Line member start place (line_kind_of down) ∷ line_parts member (Some place) after (place + 1) columns
    else line_parts member start down (place + 1) columns

-- what is drawn of a member: its names, and its line in parts
abbrev pub history_member_shapes : List Column → ℕ → List Shape
history_member_shapes columns member = label_and_names (length columns) member None ++ line_parts member None false 0 columns

-- the same of each member
abbrev pub members_shapes : ℕ → List Column → List Shape
members_shapes members columns = flat_map (history_member_shapes columns) (range_with_len 0 members)
