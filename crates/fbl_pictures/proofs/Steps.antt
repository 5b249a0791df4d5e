-- Items one after another: what is drawn of them, and what is of each.
use Rattle.fbl_pictures.proofs.Common.{ℕ, ◌+◌, ◌<◌, ◌≤◌, ◌≡◌, List, ◌++◌, length, drop, get_or, sym, ap, ◌∙◌, append_assoc, append-nil, at_drop_all, at_drop_more, Shape, drawn, ◌∷◌, [], take, arith, map, map_more, ◌-◌, flat_map, range_with_len}

module _ {A S : Type 0} (items : List A) (i : ℕ) (draw : ℕ → A → List S) (front base : List S) (drew : front ++ drawn draw i (drop i items) ≡ base) where
  pub drawn_on : (x : A) → i < length items → x ≡ get_or items i x → (front ++ draw i x) ++ drawn draw (i + 1) (drop (i + 1) items) ≡ base
  drawn_on x within is =
      append_assoc front (draw i x) _
      ∙ ap (λ s. front ++ s) (sym (at_drop_more (drawn draw i) items i x within ∙ ap (λ y. draw i y ++ drawn draw (i + 1) (drop (i + 1) items)) (sym is)))
      ∙ drew

  pub drawn_all : length items ≤ i → front ≡ base
  drawn_all all = sym (at_drop_all (λ l. front ++ drawn draw i l) items i all ∙ append-nil front) ∙ drew

-- and what is of each
pub mapped_on : {A B : Type 0} (f : A → B) (items : List A) (i : ℕ) (x : A) → i < length items → x ≡ get_or items i x → (base : List B) → (base ++ map f (take i items)) ++ f x ∷ [] ≡ base ++ map f (take (i + 1) items)
mapped_on f items i x within is base = append_assoc base _ _ ∙ ap (λ s. base ++ s) (sym (map_more f items i x within ∙ ap (λ y. map f (take i items) ++ f y ∷ []) (sym is)))

-- and what is of each number
pub rows_all : (f : ℕ → List Shape) (n i : ℕ) (before all : List Shape) → n ≤ i → before ++ flat_map f (range_with_len i (n - i)) ≡ all → before ≡ all
rows_all f n i before all past drawn = (let none : n - i ≡ 0 = omega (arith, past) in rw (none, append-nil) at drawn)
