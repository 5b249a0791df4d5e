-- What is drawn in columns one after another, and how the parts of a member's line are drawn.
use Rattle.std.specs.Prelude.{ℕ, ◌+◌, Bool, true, false, List, [], ◌∷◌, ◌++◌}
use Rattle.fbl_history.specs.declared.shape.LineKind.{LineKind}
use Rattle.fbl_history.specs.declared.shape.LineKind.TheVariants.{Down, Up}

-- what is drawn of each of these in turn, the first of which stands in this column
abbrev pub drawn : {A B : Type 0} → (ℕ → A → List B) → ℕ → List A → List B
drawn draw column [] = []
drawn draw column (item ∷ items) = draw column item ++ drawn draw (column + 1) items

-- how a part of a member's line is drawn where the member is down, and where it isn't
abbrev pub line_kind_of : Bool → LineKind
line_kind_of true = Down
line_kind_of false = Up
