use Rattle.fbl_pictures.proofs.Common.{ℕ, List, ◌≡◌, ◌++◌, length}
use Rattle.std.specs.List.{concat}
use Rattle.std.specs.Prelude.{string_bytes}
use Rattle.fbl_pictures.proofs.svg.push_glyphs.Given as goal

-- there is a text for each glyph so far
abbrev pub invariant-loop-glyph : goal.invariant-loop-glyph
invariant-loop-glyph l = (texts : List (List ℕ)) × (length texts ≡ l.glyph-index) × (string_bytes l.text ≡ string_bytes l.fn.text ++ concat texts)
