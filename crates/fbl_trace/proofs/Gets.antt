-- What a list has at a place, and how long it is when it is mapped or filtered.
use Rattle.fbl_trace.proofs.Common.{filter, filter_map, cons_option, slice_get_read, get_or_from_slice_get, map, Bool, true, false, cond, Option, None, ◌∙◌, ℕ, zero, suc, ◌≡◌, ◌<◌}
use Rattle.fbl_trace.proofs.Common.{◌⊎◌, inl, inr, List, [], ◌∷◌, ◌++◌, length, take, drop, Some, slice_get, get_or, replicate, refl, sym, ap, arith, Contains, All-contains_itself}
use Rattle.fbl_trace.proofs.Common.{All-filter, All-get_or, append_assoc, length-take, take-suc, get_or-take, slice_get_within, add-one, drop-cons, ◌+◌, ◌≤◌, below_more}
use Rattle.fbl_trace.proofs.Common.{length-filter, count_by-le-length, ◌-◌, flat_map, range_with_len, take-append-drop, subst, nat_tests}
pub use Rattle.fbl_trace.proofs.Common.{slice_get_within as At-below}

pub At-front : {X : Type 0} (xs ys : List X) (i : ℕ) (x : X) → slice_get xs i ≡ Some x → slice_get (xs ++ ys) i ≡ Some x
At-front [] ys i x h = cc
At-front (y ∷ xs) ys zero x h = h
At-front (y ∷ xs) ys (suc i) x h = At-front xs ys i x h

pub At-seam : {X : Type 0} (xs : List X) (x : X) (ys : List X) → slice_get (xs ++ x ∷ ys) (length xs) ≡ Some x
At-seam [] x ys = refl
At-seam (y ∷ xs) x ys = At-seam xs x ys

-- an element of two lists joined is at a place of the first, or of the second
pub At-append : {X : Type 0} (xs ys : List X) (i : ℕ) (x : X) → slice_get (xs ++ ys) i ≡ Some x → (slice_get xs i ≡ Some x) ⊎ ((k : ℕ) × (i ≡ length xs + k) × (slice_get ys k ≡ Some x))
At-append [] ys i x h = inr (i, omega arith, h)
At-append (y ∷ xs) ys zero x h = inl h
At-append (y ∷ xs) ys (suc i) x h = elim (At-append xs ys i x h) [ inl e ↦ inl e | inr e ↦ inr (e.0, omega arith, e.2) ]

pub At-push : {X : Type 0} (xs : List X) (y : X) (i : ℕ) (x : X) → slice_get (xs ++ y ∷ []) i ≡ Some x → (slice_get xs i ≡ Some x) ⊎ ((i ≡ length xs) × (y ≡ x))
At-push [] y zero x h = inr (refl, cc)
At-push [] y (suc i) x h = cc
At-push (z ∷ xs) y zero x h = inl h
At-push (z ∷ xs) y (suc i) x h = elim (At-push xs y i x h) [ inl e ↦ inl e | inr e ↦ inr (ap suc e.0, e.1) ]

-- what a filtered list has at some place, the list has at some place
pub At-filter : {X : Type 0} (p : X → Bool) (xs : List X) (i : ℕ) (x : X) → slice_get (filter p xs) i ≡ Some x → (j : ℕ) × (slice_get xs j ≡ Some x)
At-filter p xs i x h =
    let among = All-get_or (Contains xs) (filter p xs) i x (slice_get_within _ i x h) (All-filter p (Contains xs) xs (All-contains_itself xs)) in
    grind (arith, All-get_or, slice_get_within, All-filter, All-contains_itself, get_or_from_slice_get, slice_get_read)

pub At-filter_map : {X Y : Type 0} (f : X → Option Y) (xs : List X) (i : ℕ) (y : Y) → slice_get (filter_map f xs) i ≡ Some y → (j : ℕ) × (x : X) × (slice_get xs j ≡ Some x) × (f x ≡ Some y)
At-filter_map f [] i y h = cc
At-filter_map {X} {Y} f (x ∷ xs) i y h = at (f x) refl (λ k. At-filter_map f xs k y) i h where
  at : (o : Option Y) → f x ≡ o → ((k : ℕ) → slice_get (filter_map f xs) k ≡ Some y → (j : ℕ) × (z : X) × (slice_get xs j ≡ Some z) × (f z ≡ Some y))
      → (k : ℕ) → slice_get (cons_option o (filter_map f xs)) k ≡ Some y → (j : ℕ) × (z : X) × (slice_get (x ∷ xs) j ≡ Some z) × (f z ≡ Some y)
  at None e later k g = (let r = later k g in (suc r.0, r.1, r.2, r.3))
  at (Some w) e later zero g = (0, x, refl, e ∙ g)
  at (Some w) e later (suc k) g = (let r = later k g in (suc r.0, r.1, r.2, r.3))

-- an element that is mapped to something is in what the map gives
pub filter_map-At : {X Y : Type 0} (f : X → Option Y) (xs : List X) (i : ℕ) (x : X) (y : Y) → slice_get xs i ≡ Some x → f x ≡ Some y → (j : ℕ) × (slice_get (filter_map f xs) j ≡ Some y)
filter_map-At f [] i x y at is = cc
filter_map-At f (z ∷ xs) zero x y at is = (let e : f z ≡ Some y = (let same : z ≡ x = cc in ap f same ∙ is) in (0, rw e))
filter_map-At f (z ∷ xs) (suc i) x y at is =
    let r = filter_map-At f xs i x y at is in
    elim (f z) as (λ o. (j : ℕ) × (slice_get (cons_option o (filter_map f xs)) j ≡ Some y)) [ None ↦ r | Some w ↦ (suc r.0, r.1) ]

-- an element of what a map gives is the image of one
pub map-At : {X Y : Type 0} (f : X → Y) (xs : List X) (i : ℕ) (y : Y) → slice_get (map f xs) i ≡ Some y → (x : X) × (slice_get xs i ≡ Some x) × (f x ≡ y)
map-At f [] i y here = absurd cc
map-At f (x ∷ xs) zero y here = (x, refl, cc)
map-At f (x ∷ xs) (suc i) y here = map-At f xs i y here

-- maps that agree at each place give the same
pub filter_map-agree : {X Y : Type 0} (g h : X → Option Y) (xs : List X) → ((i : ℕ) (x : X) → slice_get xs i ≡ Some x → g x ≡ h x) → filter_map g xs ≡ filter_map h xs
filter_map-agree g h [] agree = refl
filter_map-agree g h (x ∷ xs) agree = ap (λ o. cons_option o (filter_map g xs)) (agree 0 x refl) ∙ ap (λ ys. cons_option (h x) ys) (filter_map-agree g h xs (λ i. agree (suc i)))

pub get_or-same : {X : Type 0} (n q : ℕ) (x : X) → get_or (replicate n x) q x ≡ x
get_or-same zero q x = refl
get_or-same (suc n) zero x = refl
get_or-same (suc n) (suc q) x = get_or-same n q x

-- two elements in their order
abbrev pub Apart : {X : Type 0} → List X → X → X → Type 0
Apart xs x y = (i : ℕ) × (j : ℕ) × (i < j) × (slice_get xs i ≡ Some x) × (slice_get xs j ≡ Some y)

pub Apart-later : {X : Type 0} (z : X) (xs : List X) (x y : X) → Apart xs x y → Apart (z ∷ xs) x y
Apart-later z xs x y h = (suc h.0, suc h.1, omega (arith, h.2), h.3, h.4)

pub Apart-cases : {X : Type 0} (z : X) (xs : List X) (x y : X) → Apart (z ∷ xs) x y → ((z ≡ x) × (j : ℕ) × (slice_get xs j ≡ Some y)) ⊎ Apart xs x y
Apart-cases z xs x y h = grind (arith, nat_tests)

-- what a filter and a map keep stays in order
pub Apart-filter : {X : Type 0} (p : X → Bool) (xs : List X) (x y : X) → Apart (filter p xs) x y → Apart xs x y
Apart-filter p [] x y h = h
Apart-filter {X} p (z ∷ xs) x y h =
    (elim (p z) as (λ b. Apart (cond b (z ∷ filter p xs) (filter p xs)) x y → Apart (z ∷ xs) x y) [
      | true ↦ λ g. elim (Apart-cases z (filter p xs) x y g) [
        | inl here ↦ (let r = At-filter p xs here.1 y here.2 in (0, suc r.0, omega arith, ap Some here.0, r.1))
        | inr rest ↦ Apart-later z xs x y (Apart-filter p xs x y rest)
      ]
      | false ↦ λ g. Apart-later z xs x y (Apart-filter p xs x y g)
    ]) h

pub Apart-filter_map : {X Y : Type 0} (f : X → Option Y) (xs : List X) (x y : Y) → Apart (filter_map f xs) x y → (a : X) × (b : X) × Apart xs a b × (f a ≡ Some x) × (f b ≡ Some y)
Apart-filter_map f [] x y h = absurd (omega (arith, At-below [] h.0 x h.3))
Apart-filter_map {X} {Y} f (z ∷ xs) x y h =
    (elim (f z) as (λ o. f z ≡ o → Apart (cons_option o (filter_map f xs)) x y → (a : X) × (b : X) × Apart (z ∷ xs) a b × (f a ≡ Some x) × (f b ≡ Some y)) [
      | None ↦ λ e g. (let r = Apart-filter_map f xs x y g in (r.0, r.1, Apart-later z xs r.0 r.1 r.2, r.3, r.4))
      | Some w ↦ λ e g. elim (Apart-cases w (filter_map f xs) x y g) [
        | inl here ↦ (let r = At-filter_map f xs here.1 y here.2 in (z, r.1, (0, suc r.0, omega arith, refl, r.2), e ∙ ap Some here.0, r.3))
        | inr rest ↦ (let r = Apart-filter_map f xs x y rest in (r.0, r.1, Apart-later z xs r.0 r.1 r.2, r.3, r.4))
      ]
    ]) refl h

pub slice_get-take : {X : Type 0} (xs : List X) (n i : ℕ) (x : X) → i < n → slice_get xs i ≡ Some x → slice_get (take n xs) i ≡ Some x
slice_get-take xs n i x below h = grind (arith, slice_get_within xs i x h, slice_get_read, length-take n xs, get_or-take n xs i x below, get_or_from_slice_get xs i x x h)

-- one element more from the front of a list
pub take-more : {X : Type 0} (xs : List X) (i : ℕ) (x : X) → slice_get xs i ≡ Some x → take (suc i) xs ≡ take i xs ++ x ∷ []
take-more xs i x at = take-suc xs i x (slice_get_within xs i x at) ∙ ap (λ y. take i xs ++ y ∷ []) (get_or_from_slice_get xs i x x at)

-- what a list has from a place on
pub drop_next : {X : Type 0} (xs : List X) (i : ℕ) (x : X) → slice_get xs i ≡ Some x → drop i xs ≡ x ∷ drop (i + 1) xs
drop_next xs i x at = rw (add-one, drop-cons xs i x (slice_get_within xs i x at), get_or_from_slice_get xs i x x at) refl

-- a list, cut at a place
pub split-at : {X : Type 0} (xs : List X) (i : ℕ) (x : X) → slice_get xs i ≡ Some x → xs ≡ take i xs ++ x ∷ drop (suc i) xs
split-at xs i x here = sym (take-append-drop (suc i) xs) ∙ (rw (take-more xs i x here, append_assoc))

-- what holds of each element before a place
module _ {X : Type 0} (Q : ℕ → X → Type 0) (xs : List X) (n : ℕ) where
  -- and of the one there
  pub each_more : (x : X) → n < length xs → x ≡ get_or xs n x → Q n x → ((j : ℕ) → j < n → (y : X) → slice_get xs j ≡ Some y → Q j y) → (j : ℕ) → j < n + 1 → (y : X) → slice_get xs j ≡ Some y → Q j y
  each_more x within is here before = below_more _ n before (λ y at. (let there = slice_get_read xs _ n x refl within is in let same : x ≡ y = cc in subst (Q n) same here))

  -- at the end it holds of each
  pub each_all : length xs ≤ n → ((j : ℕ) → j < n → (y : X) → slice_get xs j ≡ Some y → Q j y) → (j : ℕ) (y : X) → slice_get xs j ≡ Some y → Q j y
  each_all all before j y at = before j (omega (arith, slice_get_within xs j y at, all)) y at

-- what is left of a list is no longer
pub length-left : {X : Type 0} (p : X → Bool) (xs : List X) → length (filter p xs) ≤ length xs
length-left p xs = omega (arith, length-filter p xs, count_by-le-length p xs)

-- nor is what is left of one that is mapped
pub length-filter_map : {X Y : Type 0} (f : X → Option Y) (xs : List X) → length (filter_map f xs) ≤ length xs
length-filter_map f [] = omega arith
length-filter_map f (x ∷ xs) = grind (arith, length-filter_map f xs)

-- what is made of each number from one on, once that of this one is there
pub rows_on : {X : Type 0} (f : ℕ → List X) (n i : ℕ) (before all : List X) → i < n → before ++ flat_map f (range_with_len i (n - i)) ≡ all
    → (before ++ f i) ++ flat_map f (range_with_len (i + 1) (n - (i + 1))) ≡ all
rows_on f n i before all below so_far = (let more : n - i ≡ suc (n - (i + 1)) = omega (arith, below) in append_assoc before (f i) _ ∙ (rw more at so_far))
