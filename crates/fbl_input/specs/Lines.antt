-- Lines, and a set of members as it is printed.
use Rattle.std.specs.Prelude.{ℕ, List, [], ◌∷◌, ◌++◌, codes, decimal}
use Rattle.std.specs.List.{flat_map}
use Rattle.std.specs.Ordering.{nat_cmp}
use Rattle.std.specs.FinSet as set
use Rattle.fbl_trace.specs.MemberSets.{member_list}

-- each number after a comma
abbrev pub after_commas : List ℕ → List ℕ
after_commas ms = flat_map (λ m. codes "," ++ decimal m) ms

-- the numbers with commas between, and `none` for no number
abbrev pub with_commas : List ℕ → List ℕ
with_commas [] = codes "none"
with_commas (m ∷ ms) = decimal m ++ after_commas ms

-- the set as it is printed
abbrev pub set_words : set.FinSet nat_cmp → List ℕ
set_words s = with_commas (member_list s)

-- the pieces one after another, and the end of the line
abbrev pub line : List (List ℕ) → List ℕ
line [] = 10 ∷ []
line (piece ∷ pieces) = piece ++ line pieces

-- how many receipts are lost
abbrev pub lost_line : ℕ → List ℕ
lost_line lost = line (codes "lost " ∷ decimal lost ∷ [])

-- who is an orphan
abbrev pub orphans_line : set.FinSet nat_cmp → List ℕ
orphans_line orphans = line (codes "orphans " ∷ set_words orphans ∷ [])
