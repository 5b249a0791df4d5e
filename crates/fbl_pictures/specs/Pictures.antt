-- A picture as it is written.
use Rattle.std.specs.Prelude.{ℕ, ◌≡◌, List, ◌++◌, length}
use Rattle.std.specs.List.{concat}
use Rattle.fbl_history.specs.declared.shape.Glyph.{Glyph}
use Rattle.fbl_history.specs.declared.shape.Shape.{Shape}

-- the text of a picture has its heading, and a text for each of its shapes and then of its glyphs, in their order; no clause says which
-- text a shape or a glyph has
pub record IsPictureText (heading : List ℕ) (shapes : List Shape) (glyphs : List Glyph) (text : List ℕ) : Type 0 where
  pub start : List ℕ
  pub frame : List ℕ
  pub lines : List (List ℕ)
  pub line_each : length lines ≡ length shapes
  pub marks : List (List ℕ)
  pub mark_each : length marks ≡ length glyphs
  pub end : List ℕ
  pub is : text ≡ start ++ heading ++ frame ++ concat lines ++ concat marks ++ end
