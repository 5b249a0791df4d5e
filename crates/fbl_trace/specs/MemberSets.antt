-- Sets of members, and how sixteen bits keep one.
use Rattle.std.specs.Prelude.{◌≡◌, ◌≢◌, ℕ, ◌+◌, ◌*◌, ◌/◌, ◌%◌, ◌^◌, ◌<◌, ◌&&◌, ◌↔◌, ◌⊎◌, nat_lt, Bool, true, cond, List}
use Rattle.std.proofs.Common.{zero, suc, ◌∙◌, arith, ap, eqb}
use Rattle.std.proofs.lemmas.Bool.Decides.{nat_tests}
use Rattle.std.specs.Ordering.{nat_cmp}
use Rattle.std.specs.List.{filter, range_with_len}
use Rattle.std.specs.Cmp.{unsigned_tied, nat_cmp_total}
use Rattle.std.specs.FinSet as set
use Rattle.std.specs.Int.{bit_at}
use Rattle.std.proofs.lemmas.Nat.Bits.{bit_at_lowest, bit_at-suc, bit_at_above}

-- a set of members
abbrev pub Members : Type 0
Members = set.FinSet nat_cmp

-- the members below n that pass the test
unfoldable pub members_where : ℕ → (ℕ → Bool) → Members
members_where zero p = set.empty
members_where (suc n) p = cond (p n) (set.insert (members_where n p) n) (members_where n p)

-- the members of a set, rising
unfoldable pub member_list : set.FinSet nat_cmp → List ℕ
member_list s = filter (set.contains s) (range_with_len 0 16)

-- each member of the set is below n
abbrev pub AllBelow : set.FinSet nat_cmp → ℕ → Type 0
AllBelow s n = (q : ℕ) → set.contains s q ≡ true → q < n

pub contains-insert_same : (s : set.FinSet nat_cmp) (k : ℕ) → set.contains (set.insert s k) k ≡ true
contains-insert_same s k = set.contains-insert nat_cmp_total s k k ∙ (rw (unsigned_tied k k) grind (arith, nat_tests))

pub contains-insert_other : (s : set.FinSet nat_cmp) (k q : ℕ) → q ≢ k → set.contains (set.insert s k) q ≡ set.contains s q
contains-insert_other s k q ne = set.contains-insert nat_cmp_total s k q ∙ (rw (unsigned_tied q k) grind (arith, nat_tests))

pub contains-union : (s t : set.FinSet nat_cmp) (q : ℕ) → (set.contains (set.union s t) q ≡ true) ↔ (set.contains s q ≡ true) ⊎ (set.contains t q ≡ true)
contains-union s t q = grind (arith, set.contains-union nat_cmp_total s t q)

-- whether a member is among those that pass
pub contains-members_where : (n : ℕ) (p : ℕ → Bool) (q : ℕ) → set.contains (members_where n p) q ≡ (nat_lt q n && p q)
unfolding members_where
contains-members_where zero p q = set.contains-empty nat_cmp q ∙ grind (arith, nat_tests)
contains-members_where (suc n) p q =
    let other = contains-insert_other (members_where n p) n q in
    grind (arith, nat_tests, contains-members_where n p q, contains-insert_same (members_where n p) n, other, λ (same : q ≡ n). ap p same)

-- two sets with the same members are equal
pub same_from_contains : (s t : set.FinSet nat_cmp) → ((q : ℕ) → set.contains s q ≡ set.contains t q) → s ≡ t
same_from_contains s t same = set.same_set nat_cmp_total set.nat_cmp-IsAntisymmetric s t same

-- whether b has a 1 at the place
abbrev pub has_one : ℕ → ℕ → Bool
has_one b k = eqb (bit_at b k) 1

-- the places at which b has a 1
unfoldable pub set_of : ℕ → Members
set_of b = members_where 16 (has_one b)

-- the number with a 1 at the places of the set, of n digits from place k on
unfoldable pub bits_of : ℕ → ℕ → Members → ℕ
bits_of zero k s = 0
bits_of (suc n) k s = cond (set.contains s k) 1 0 + 2 * bits_of n (suc k) s

-- whether a member is in the set
pub contains-set_of : (b q : ℕ) → b < 65536 → set.contains (set_of b) q ≡ has_one b q
unfolding set_of
contains-set_of b q within = contains-members_where 16 (has_one b) q ∙ grind (arith, nat_tests, bit_at_above b 16 q within)

bits_of-same : (n k b : ℕ) (s : Members) → b < 2 ^ n → ((j : ℕ) → j < n → set.contains s (j + k) ≡ has_one b j) → bits_of n k s ≡ b
unfolding bits_of
bits_of-same zero k b s below same = omega (arith, below)
bits_of-same (suc n) k b s below same =
    let first : set.contains s k ≡ eqb (b % 2) 1 = (rw (let e : 0 + k ≡ k = omega arith in e) at (same 0 (omega arith))) ∙ ap (λ x. eqb x 1) (bit_at_lowest b) in
    let rest : bits_of n (suc k) s ≡ b / 2 = bits_of-same n (suc k) (b / 2) s (omega (arith, below)) (λ j lt. (rw (let e : j + suc k ≡ suc j + k = omega arith in e) (same (suc j) (omega (arith, lt)) ∙ ap (λ x. eqb x 1) (bit_at-suc b j)))) in
    rw (first, rest) grind (arith, nat_tests)

pub bits_of-set_of : (b : ℕ) → b < 65536 → bits_of 16 0 (set_of b) ≡ b
bits_of-set_of b within = bits_of-same 16 0 b (set_of b) within (λ j lt. rw (let e : j + 0 ≡ j = omega arith in e) (contains-set_of b j within))
