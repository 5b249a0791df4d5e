-- What is drawn of a history: a line for each member, and a column for each event of the history and for each strike, recovery and
-- checkpoint, in the order in which they came.
use Rattle.std.specs.Prelude.{ℕ, List, ◌++◌}
use Rattle.fbl_history.specs.declared.column.Column.{Column}
use Rattle.fbl_history.specs.declared.shape.Glyph.{Glyph}
use Rattle.fbl_history.specs.declared.shape.Shape.{Shape}
use Rattle.fbl_history.specs.Marks.{column_marks}
use Rattle.fbl_history.specs.MemberLines.{members_shapes}
use Rattle.fbl_history.specs.Arrows.{receipt_arrow, stub}
use Rattle.fbl_history.specs.Shapes.{drawn}

-- the members' lines, the arrows and the messages in flight
unfoldable pub history_shapes : ℕ → List Column → List Shape
history_shapes members columns =
    members_shapes members columns ++ drawn (receipt_arrow columns) 0 columns ++ drawn (stub columns) 0 columns

-- and over them the marks
unfoldable pub history_marks : List Column → List Glyph
history_marks columns = drawn column_marks 0 columns
