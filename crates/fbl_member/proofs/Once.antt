-- What a table passes on has no determinant twice.
use Rattle.fbl_member.proofs.Common.{◌≡◌, true, false, cond, List, [], ◌∷◌, map, Determinant, Entry, piggybacked, AllByRecursion, same_determinant, is_open, IsOnce, arith, nat_tests}
use Rattle.std.specs.List.{IsDistinct}

module _ (f : _) where
  -- what holds of each determinant of a table holds of each that it passes on
  kept_all : (P : Determinant → Type 0) (table : List Entry) → AllByRecursion P (map (λ (e : Entry). e.det) table) → AllByRecursion P (map (λ (e : Entry). e.det) (piggybacked f table))
  kept_all P [] all = all
  kept_all P (e ∷ table) all = grind (arith, nat_tests, kept_all P table all.1)

  pub IsOnce-piggybacked : (table : List Entry) → IsOnce table → IsOnce (piggybacked f table)
  unfolding IsDistinct
  IsOnce-piggybacked [] once = once
  IsOnce-piggybacked (e ∷ table) once =
      let others = kept_all (λ d. same_determinant e.det d ≡ false) table once.0 in
      let rest = IsOnce-piggybacked table once.1 in
      elim (is_open f e) as (λ b. IsOnce (cond b (e ∷ piggybacked f table) (piggybacked f table))) [ true ↦ (others, rest) | false ↦ rest ]

-- no two entries of none are alike
pub IsOnce-none : IsOnce []
unfolding IsDistinct
IsOnce-none = tt

-- what a table passes on, and what is nothing, has no determinant twice
pub ruleset carried_once = (IsOnce-piggybacked, IsOnce-none)
