-- A column for each member, or none.
use Rattle.std.specs.Prelude.{ℕ, Bool, true, nat_lt, Option, Some, None, slice_index_or}
use Rattle.fbl_pictures.specs.declared.run.columns.Columns.{Columns}

-- what the columns have for a member, if they have anything
abbrev pub column_in : Columns → ℕ → Option ℕ
column_in columns member = slice_index_or columns.columns member None

-- whether the place is before the column, if there is one
abbrev pub is_left : ℕ → Option ℕ → Bool
is_left place None = true
is_left place (Some column) = nat_lt place column

-- whether what stands at the place in the member's log has come at the moment: it is left of the moment's line, if one is drawn
abbrev pub has_come : Columns → ℕ → ℕ → Bool
has_come moment place member = is_left place (column_in moment member)
