-- The values of a list, read one after another in a shape.
use Rattle.fbl_input.proofs.Common.{◌≡◌, ℕ, ◌+◌, ◌<◌, ◌≤◌, List, [], ◌∷◌, ◌++◌, append_assoc, refl, option_and_then, option_map, map, get_or, length, sym, ap, ◌∙◌, suc, drop, drop-cons, add-one, Option, Some, None, Data, all_shaped}
use Rattle.std.proofs.lemmas.List.{append-nil, drop_all}

module _ {V A : Type 0} (view : V → Data) (shape : Data → Option A) where
  -- what is read of the items so far, and of those that are left
  abbrev pub With : List A → List V → Option (List A)
  With front list = option_map (λ rest. front ++ rest) (all_shaped shape (map view list))

  left_from : (list : List V) (i : ℕ) (v : V) → i < length list → v ≡ get_or list i v → drop i list ≡ v ∷ drop (i + 1) list
  left_from list i v within is = rw add-one (drop-cons list i v within ∙ ap (λ x. x ∷ drop (suc i) list) (sym is))

  -- one without the shape
  pub none_read : (list : List V) (i : ℕ) (v : V) (front : List A) (all : Option (List A)) → i < length list → v ≡ get_or list i v → None ≡ shape (view v)
      → With front (drop i list) ≡ all → None ≡ all
  none_read list i v front all within is given h = rw (left_from list i v within is, ← given) at h

  -- all is read
  pub all_read : (list : List V) (i : ℕ) (front : List A) (all : Option (List A)) → length list ≤ i → With front (drop i list) ≡ all → Some front ≡ all
  all_read list i front all past h = rw (drop_all i list past, append-nil front) at h

  -- one more is read
  pub read_more : (list : List V) (i : ℕ) (v : V) (a : A) (front : List A) (all : Option (List A)) → i < length list → v ≡ get_or list i v → Some a ≡ shape (view v)
      → With front (drop i list) ≡ all → With (front ++ a ∷ []) (drop (i + 1) list) ≡ all
  read_more list i v a front all within is given h =
      moved (all_shaped shape (map view (drop (i + 1) list)))
      ∙ ap (λ found. option_map (λ r. front ++ r) (step (map view (drop (i + 1) list)) found)) given
      ∙ ap (λ l. option_map (λ r. front ++ r) (all_shaped shape (map view l))) (sym (left_from list i v within is)) ∙ h
    where
      step : List Data → Option A → Option (List A)
      step ds found = option_and_then (λ x. option_map (λ rest. x ∷ rest) (all_shaped shape ds)) found

      moved : (rest : Option (List A)) → option_map (λ r. (front ++ a ∷ []) ++ r) rest ≡ option_map (λ r. front ++ r) (option_and_then (λ x. option_map (λ r. x ∷ r) rest) (Some a))
      moved None = refl
      moved (Some r) = ap Some (append_assoc front (a ∷ []) r)
