use Rattle.fbl_pictures.proofs.Common.{ℕ, List, ◌≡◌, ◌++◌, length}
use Rattle.std.specs.List.{concat}
use Rattle.std.specs.Prelude.{string_bytes}
use Rattle.fbl_pictures.proofs.svg.push_shapes.Given as goal

-- there is a text for each shape so far
abbrev pub invariant-loop-shape : goal.invariant-loop-shape
invariant-loop-shape l = (texts : List (List ℕ)) × (length texts ≡ l.shape-index) × (string_bytes l.text ≡ string_bytes l.fn.text ++ concat texts)
