-- Lists that loops make, an element for each turn.
use Rattle.fbl_member.proofs.Common.{◌≡◌, ℕ, ◌+◌, ◌<◌, List, [], ◌∷◌, ◌++◌, length, get_or, arith, common_steps}

-- the elements of a list of i are those wanted at their places
pub record Made {X : Type 0} (d : X) (Wanted : ℕ → X → Type 0) (i : ℕ) (xs : List X) : Type 0 where
  pub size : length xs ≡ i
  pub each : (m : ℕ) → m < i → Wanted m (get_or xs m d)

pub made_none : {X : Type 0} (d : X) (Wanted : ℕ → X → Type 0) → Made d Wanted 0 []
made_none d Wanted = grind arith

pub made-more : {X : Type 0} (d : X) (Wanted : ℕ → X → Type 0) (i : ℕ) (xs : List X) (x : X) → Made d Wanted i xs → Wanted i x → Made d Wanted (i + 1) (xs ++ x ∷ [])
made-more d Wanted i xs x made wanted = grind (arith, common_steps)
