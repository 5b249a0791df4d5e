-- A member's names.
use Rattle.std.specs.Prelude.{ℕ, ◌+◌, ◌-◌, ◌*◌, ◌/◌, List, ◌∷◌, Option, map}
use Rattle.std.specs.List.{range_with_len}
use Rattle.fbl_history.specs.declared.shape.Shape.{Shape}
use Rattle.fbl_history.specs.declared.shape.Shape.TheVariants.{Label, Name}
use Rattle.fbl_history.specs.declared.shape.Status.{Status}

-- a member's label, and its name again after each 24 columns, where more than 8 others follow these
abbrev pub names : ℕ → ℕ → List Shape
names columns member = map (λ group. Name (24 * (group + 1)) member) (range_with_len 0 ((columns - 9) / 24))

abbrev pub label_and_names : ℕ → ℕ → Option Status → List Shape
label_and_names columns member status = Label member status ∷ names columns member
