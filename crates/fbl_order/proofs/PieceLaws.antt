-- Laws of the members' pieces in several files.
use Rattle.fbl_runs.proofs.Listing.{some_item}
use Rattle.fbl_order.proofs.Common.{IsPermutation, drop, items_at, length-append, set, slice_get_within, take, ℕ, ◌≡◌, ◌∙◌, ◌<◌, ◌≤◌, ◌+◌, ◌++◌, add-one, ◌∷◌, [], ◌⊎◌, Bool, List, Some, arith, cases_eq, cases_lt, false, false≢true, get_or, inl, inr, length, map, refl, slice_get, suc, sym, zero, ap}
use Rattle.std.proofs.Common.{AllPairs, Equal, Less, is_lt, nat_cmp}
use Rattle.std.proofs.lemmas.Cmp.{nat_cmp_total, on_total, then_total}
use Rattle.std.proofs.lemmas.List.FromFn.{get_or-range_with_len, length-range_with_len}
use Rattle.std.proofs.lemmas.List.MinMax.{ranks_by}
use Rattle.std.proofs.lemmas.List.{length-map}
use Rattle.std.proofs.lemmas.List.Sorted.{All-permutation, sorted_far}
use Rattle.std.proofs.lemmas.Option.{get_or_from_slice_get, slice_get-map}
use Rattle.std.specs.Cmp.{nat_cmp_is}
use Rattle.std.specs.List.{All, range_with_len}
use Rattle.std.specs.List.Sorted.{IsSortedBy}
use Rattle.std.specs.Option.{option_map}
use Rattle.std.specs.Ordering.{ordering_then}
use Rattle.fbl_runs.specs.declared.entry.Entry.{Entry}
use Rattle.fbl_runs.specs.Entries.{entry_member}
use Rattle.fbl_runs.specs.declared.run.RawLog.{RawLog}
use Rattle.fbl_order.specs.Pieces.{IsInTurn, as_given, entries_of, life_at, lives_in, lives_of, member_at, turn_of}

pub member_is : (entries : List Entry) (k : ℕ) (e : Entry) → slice_get entries k ≡ Some e → member_at entries k ≡ entry_member e
member_is entries k e at =
    get_or_from_slice_get (map entry_member entries) k (entry_member e) 0 (slice_get-map entry_member entries k ∙ ap (option_map entry_member) at)

-- the lives of each member's pieces rise along the places as they were given
abbrev pub Rise : List Entry → List ℕ → ℕ → Type 0
Rise entries lives end = (i j : ℕ) → i < j → j < end → member_at entries i ≡ member_at entries j → life_at lives i ≤ life_at lives j

given_at : (entries : List Entry) (i d : ℕ) → i < length entries → get_or (as_given entries) i d ≡ i
given_at entries i d below = get_or-range_with_len 0 (length entries) i d below ∙ omega arith

pub given_in_turn : (entries : List Entry) (lives : List ℕ) → Rise entries lives (length entries) → AllPairs (IsInTurn entries lives) (as_given entries)
given_in_turn entries lives rise i j d before below =
    let within : j < length entries = rw (length-range_with_len 0 (length entries)) at below in
    rw (given_at entries i d (omega (arith, before, within)), given_at entries j d within) (λ same.
    let rises = rise i j before within same in
    elim (cases_lt (life_at lives i) (life_at lives j)) [
      | inl less ↦ inl less
      | inr not ↦ inr (omega (arith, rises, not), omega (arith, before))
    ])

pub given_rise : (entries : List Entry) (lives : List ℕ) → AllPairs (IsInTurn entries lives) (as_given entries) → Rise entries lives (length entries)
given_rise entries lives all i j before within same =
    let turn = all i j 0 before (rw (length-range_with_len 0 (length entries)) within) in
    let here : IsInTurn entries lives i j = rw (given_at entries i 0 (omega (arith, before, within)), given_at entries j 0 within) at turn in
    elim (here same) [
      | inl less ↦ omega (arith, less)
      | inr tie ↦ (let is = tie.0 in omega (arith, is))
    ]

range_more : (a n : ℕ) → range_with_len a (suc n) ≡ range_with_len a n ++ (a + n) ∷ []
range_more a zero = ap (λ (x : ℕ). x ∷ []) (omega arith)
range_more a (suc n) =
    let rest = range_more (a + 1) n in
    let last : a + 1 + n ≡ a + suc n = omega arith in
    ap (λ (xs : List ℕ). a ∷ xs) (rest ∙ ap (λ (x : ℕ). range_with_len (a + 1) n ++ x ∷ []) last)

pub given_more : (n : ℕ) → range_with_len 0 (n + 1) ≡ range_with_len 0 n ++ n ∷ []
given_more n =
    let last : 0 + n ≡ n = omega arith in
    rw add-one (range_more 0 n ∙ ap (λ (x : ℕ). range_with_len 0 n ++ x ∷ []) last)

-- ---- sorted places

abbrev pub ComesBefore : List ℕ → ℕ → ℕ → Bool
ComesBefore lives x y = is_lt (ordering_then (nat_cmp (life_at lives x) (life_at lives y)) (nat_cmp x y))

follows : (lives : List ℕ) (a b : ℕ) → ComesBefore lives b a ≡ false → (life_at lives a < life_at lives b) ⊎ ((life_at lives a ≡ life_at lives b) × (a ≤ b))
follows lives a b not = elim (cases_lt (life_at lives b) (life_at lives a)) [
  | inl less ↦ (
      let first : nat_cmp (life_at lives b) (life_at lives a) ≡ Less = sym (nat_cmp_is (life_at lives b) (life_at lives a) Less less) in
      absurd (false≢true (sym not ∙ ap (λ o. is_lt (ordering_then o (nat_cmp b a))) first))
      )
  | inr high ↦ elim (cases_eq (life_at lives a) (life_at lives b)) [
    | inl same ↦ elim (cases_lt b a) [
      | inl less ↦ (
          let first : nat_cmp (life_at lives b) (life_at lives a) ≡ Equal = sym (nat_cmp_is (life_at lives b) (life_at lives a) Equal (sym same)) in
          let second : nat_cmp b a ≡ Less = sym (nat_cmp_is b a Less less) in
          absurd (false≢true (sym not ∙ ap (λ o. is_lt (ordering_then o (nat_cmp b a))) first ∙ ap is_lt second))
          )
      | inr most ↦ inr (same, omega (arith, most))
    ]
    | inr differ ↦ inl (omega (arith, high, differ))
  ]
]

pub sorted_in_turn : (entries : List Entry) (lives places : List ℕ) → IsSortedBy (ComesBefore lives) places → AllPairs (IsInTurn entries lives) places
sorted_in_turn entries lives places up i j d before below same =
    let total = then_total (on_total (λ (p : ℕ × ℕ). p.0) nat_cmp_total) (on_total (λ (p : ℕ × ℕ). p.1) nat_cmp_total) in
    follows lives (get_or places i d) (get_or places j d) (sorted_far (ComesBefore lives) (ranks_by total (turn_of lives)) places up i j d (omega (arith, before)) below)

-- ---- lists of as many

pub lengths_alike : (files : List RawLog) → length (lives_of files) ≡ length (entries_of files)
lengths_alike [] = refl
lengths_alike (file ∷ files) =
    let rest = lengths_alike files in
    let own : length (lives_in file.entries.items) ≡ length file.entries.items = length-map _ _ in
    rw (length-append, length-append, own, rest) refl

-- each place is one of an entry
pub within_given : (entries : List Entry) (places : List ℕ) → IsPermutation (as_given entries) places → (k p : ℕ) → slice_get places k ≡ Some p
    → p < length entries
within_given entries places all k p here =
    let given : All (λ q. q < length entries) (as_given entries) = (λ i d below.
    let within : i < length entries = rw (length-range_with_len 0 (length entries)) at below in rw (given_at entries i d within) within) in
    let each = All-permutation (λ q. q < length entries) (as_given entries) places all given in
    let is : get_or places k p ≡ p = get_or_from_slice_get places k p p here in
    rw is at (each k p (slice_get_within places k p here))

pub items_at-length : {X : Type 0} (items : List X) (places : List ℕ) → ((k p : ℕ) → slice_get places k ≡ Some p → p < length items)
    → length (items_at items places) ≡ length places
items_at-length items [] within = refl
items_at-length items (p ∷ places) within =
    let x = some_item items p (within 0 p refl) in
    rw x.1 (ap (λ (n : ℕ). suc n) (items_at-length items places (λ k q here. within (suc k) q here)))

-- the next one of a list is put through the map
pub map_next : {X : Type 0} (f : X → X) (xs : List X) (i : ℕ) (x : X) → i < length xs → x ≡ get_or (map f (take i xs) ++ drop i xs) i x
    → set (map f (take i xs) ++ drop i xs) i (f x) ≡ map f (take (suc i) xs) ++ drop (suc i) xs
map_next f [] i x below is = absurd (omega (arith, below))
map_next f (y ∷ xs) zero x below is = rw is refl
map_next f (y ∷ xs) (suc i) x below is = ap (λ (zs : List _). f y ∷ zs) (map_next f xs i x (omega (arith, below)) is)
