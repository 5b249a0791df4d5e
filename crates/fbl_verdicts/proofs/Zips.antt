-- Lists that agree item by item.
use Rattle.fbl_verdicts.proofs.Common.{◌≡◌, ℕ, ◌<◌, ◌+◌, List, get_or, length, take, take_more, AllZip, ◌++◌, ◌∷◌, []}

-- one more of each
pub zip_more : {X R : Type 0} (Is : X → R → Type 0) (xs : List X) (i : ℕ) (x : X) (rs : List R) (r : R) → i < length xs → x ≡ get_or xs i x
    → AllZip Is (take i xs) rs → Is x r → AllZip Is (take (i + 1) xs) (rs ++ r ∷ [])
zip_more {X} {R} Is xs i x rs r below is before one = rw (take_more xs i x below, ← is) (push (take i xs) rs before)
  where
    push : (xs : List X) (rs : List R) → AllZip Is xs rs → AllZip Is (xs ++ x ∷ []) (rs ++ r ∷ [])
    push [] [] told = (one, tt)
    push [] (r' ∷ rs) told = absurd told
    push (x' ∷ xs) [] told = absurd told
    push (x' ∷ xs) (r' ∷ rs) told = (told.0, push xs rs told.1)
