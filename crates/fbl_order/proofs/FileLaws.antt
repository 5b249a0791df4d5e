-- Laws of what files have one behind another.
use Rattle.fbl_order.proofs.Common.{ℕ, List, [], ◌∷◌, ◌++◌, ◌+◌, ◌≡◌, Some, refl, add-one, append-nil, slice_get, take, take-more}
use Rattle.std.proofs.Common.{flat_map}
use Rattle.std.proofs.lemmas.Grind.{flat_map-append}

-- with one file more
pub flat_map-more : {X Y : Type 0} (f : X → List Y) (xs : List X) (i : ℕ) (x : X) → slice_get xs i ≡ Some x
    → flat_map f (take (i + 1) xs) ≡ flat_map f (take i xs) ++ f x
flat_map-more f xs i x at = rw (add-one, take-more xs i x at, flat_map-append f (take i xs) (x ∷ []), append-nil) refl
