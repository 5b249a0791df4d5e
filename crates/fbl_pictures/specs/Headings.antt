-- The headings of pictures of runs.
use Rattle.std.specs.Prelude.{ℕ, ◌==◌, List, [], ◌∷◌, ◌++◌, chars, codes, decimal, encode_utf8, if◌then◌else◌}
use Rattle.std.specs.List.{flat_map}
use Rattle.fbl_trace.specs.declared.trace.Determinant.{Determinant}
use Rattle.fbl_trace.specs.MemberSets.{Members}
use Rattle.fbl_input.specs.Lines.{set_words}

-- the pieces one after another
abbrev pub joined : List (List ℕ) → List ℕ
joined [] = []
joined (piece ∷ []) = piece
joined (piece ∷ next ∷ pieces) = piece ++ joined (next ∷ pieces)

-- so many receipts
abbrev pub receipts_word : ℕ → List ℕ
receipts_word count = if count == 1 then codes "receipt" else codes "receipts"

-- what an audit prints: who is struck, how many receipts are lost, and the orphans
abbrev pub audit_words : Members → ℕ → Members → List ℕ
audit_words struck lost orphans =
    joined (codes "struck " ∷ set_words struck ∷ codes ", lost " ∷ decimal lost ∷ codes ", orphans " ∷ set_words orphans ∷ [])

-- what a check says of a receipt: what names it, in some words at which moment it is unsafe, the strike set that loses it, and the orphans
abbrev pub unsafe_words : Determinant → List ℕ → Members → Members → List ℕ
unsafe_words d at strike orphans =
    joined (codes "unsafe " ∷ decimal d.from ∷ codes " " ∷ decimal d.ssn ∷ codes " " ∷ decimal d.to ∷ codes " " ∷ decimal d.rsn ∷ at ∷ [])
    ++ joined (codes ", strike " ∷ set_words strike ∷ codes ", orphans " ∷ set_words orphans ∷ [])

-- what a check says of a receipt that a restart undid: what names it, in some words where the restart stands, and the orphans
abbrev pub undone_words : Determinant → List ℕ → Members → List ℕ
undone_words d at orphans =
    joined (codes "undone " ∷ decimal d.from ∷ codes " " ∷ decimal d.ssn ∷ codes " " ∷ decimal d.to ∷ codes " " ∷ decimal d.rsn ∷ at ∷ [])
    ++ joined (codes ", orphans " ∷ set_words orphans ∷ [])

-- a character as it may stand in XML
abbrev pub escape : ℕ → List ℕ
escape c = if c == 38 then codes "&amp;" else (if c == 60 then codes "&lt;" else (if c == 62 then codes "&gt;" else encode_utf8 c))

-- the text so
abbrev pub escaped : List ℕ → List ℕ
escaped text = flat_map escape (chars text)

-- which of so many things are drawn: from this one to that one
abbrev pub part_words : List ℕ → ℕ → ℕ → ℕ → List ℕ
part_words things first last count =
    joined (things ∷ codes " " ∷ decimal first ∷ codes " to " ∷ decimal last ∷ codes " of " ∷ decimal count ∷ [])

-- the numbers of the run: its members, f, and what is counted in it; and what is said of it
abbrev pub heading : ℕ → ℕ → List ℕ → List ℕ → List ℕ
heading members f counted words = joined (decimal members ∷ codes " members, f " ∷ decimal f ∷ codes ", " ∷ counted ∷ codes ": " ∷ words ∷ [])
