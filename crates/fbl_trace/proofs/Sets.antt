-- How many members sets have, and operations on bits as operations on sets.
use Rattle.fbl_trace.proofs.Common.{ℕ, zero, suc, ◌+◌, ◌-◌, ◌<◌, ◌≤◌, ◌≡◌, true, false, cond, ◌||◌, List, [], ◌∷◌, refl, sym, ap, ◌∙◌, arith, inl, inr, cases_eq, false≢true, list_any, nat_cmp}
use Rattle.fbl_trace.proofs.Common.{unsigned_tied, nat_cmp_total, same_from_contains, eq-eqb, eq_by_cmp, ◌*◌, nat_tests, contains-insert_other, ◌/◌, ◌%◌, ◌^◌, eqb, bit_and, bit_or, w16, bit_at-lt}
use Rattle.fbl_trace.proofs.Common.{bit_at_or, bit_at_and, bit_at_not, bit_at_above, bit_at_set_same, bit_at_set_other, shr_and_one, bit_at-zero, mod-lt, or_lt, and_le_l, bit_at, ones_step}
use Rattle.fbl_trace.proofs.Common.{contains-insert_same, contains-members_where, contains-set_of, has_one, bit_at-suc, bit_at_lowest, Bool}
use Rattle.std.specs.FinSet as set
use Rattle.std.specs.Int.Count.{ones, ones_in}
use Rattle.fbl_trace.specs.MemberSets.{members_where, set_of}

-- a set that is not empty has a member
pub some_member : (s : set.FinSet nat_cmp) → 0 < set.len s → (k : ℕ) × (set.contains s k ≡ true)
some_member s more = at (set.items s) refl where
  at : (ks : List ℕ) → set.items s ≡ ks → (k : ℕ) × (set.contains s k ≡ true)
  at [] none =
      let e : s ≡ set.empty = same_from_contains s set.empty (λ q. set.contains-items s q ∙ ap (λ ks. list_any (eq_by_cmp nat_cmp q) ks) none ∙ sym (set.contains-empty nat_cmp q)) in
      absurd (omega (arith, ap set.len e, set.len-empty nat_cmp, more))
  at (k ∷ ks) some =
      let tie : eq_by_cmp nat_cmp k k ≡ true = unsigned_tied k k ∙ eq-eqb k k refl in
      (k, set.contains-items s k ∙ ap (λ xs. list_any (eq_by_cmp nat_cmp k) xs) some ∙ ap (λ b. b || list_any (eq_by_cmp nat_cmp k) ks) tie)

pub len-remove_one : (s : set.FinSet nat_cmp) (k : ℕ) → set.contains s k ≡ true → set.len (set.remove s k) + 1 ≡ set.len s
len-remove_one s k has =
    let e : set.len (set.remove s k) ≡ set.len s - 1 = set.len-remove nat_cmp_total s k ∙ ap (λ b. cond b (set.len s - 1) (set.len s)) has in
    at (set.len s) refl e where
      at : (n : ℕ) → set.len s ≡ n → set.len (set.remove s k) ≡ set.len s - 1 → set.len (set.remove s k) + 1 ≡ set.len s
      at zero none e = absurd (false≢true (sym (ap (λ x. set.contains x k) (set.empty_of_len s none) ∙ set.contains-empty nat_cmp k) ∙ has))
      at (suc n) some e = omega (arith, e, some)

-- a set within another has no more members
pub len-within : (n : ℕ) (s t : set.FinSet nat_cmp) → set.len s ≡ n → ((q : ℕ) → set.contains s q ≡ true → set.contains t q ≡ true) → set.len s ≤ set.len t
len-within zero s t none within = omega (arith, none)
len-within (suc n) s t some within =
    let k = some_member s (omega (arith, some)) in
    let s1 = len-remove_one s k.0 k.1 in
    let t1 = len-remove_one t k.0 (within k.0 k.1) in
    let rest = len-within n (set.remove s k.0) (set.remove t k.0) (omega (arith, s1, some)) (λ q h.
    grind (arith, set.contains-remove nat_cmp_total s k.0 q, set.contains-remove nat_cmp_total t k.0 q, within q, h)) in
    omega (arith, s1, t1, rest)

-- a set with more members than another has one that the other lacks
pub some_outside : (s t : set.FinSet nat_cmp) → set.len t < set.len s → (k : ℕ) × (set.contains s k ≡ true) × (set.contains t k ≡ false)
some_outside s t more =
    let left = set.difference s t in
    let has = λ (q : ℕ). set.contains-difference nat_cmp_total s t q in
    elim (cases_eq (set.len left) 0) [
      | inl none ↦
          let empty = λ (q : ℕ). sym (has q) ∙ ap (λ x. set.contains x q) (set.empty_of_len left none) ∙ set.contains-empty nat_cmp q in
          absurd (omega (arith, more, len-within (set.len s) s t refl (λ q h. (let lacks = empty q in grind (arith, lacks, h)))))
      | inr some ↦ grind (arith, nat_tests, some_member)
    ]

same-bits : (b : ℕ) (s : set.FinSet nat_cmp) → b < 65536 → ((q : ℕ) → eqb (bit_at b q) 1 ≡ set.contains s q) → set_of b ≡ s
same-bits b s within same = same_from_contains _ _ (λ q. contains-set_of b q within ∙ same q)

pub empty_bits : set_of 0 ≡ set.empty
empty_bits = same-bits 0 set.empty (omega arith) (λ q. ap (λ x. eqb x 1) (bit_at-zero q) ∙ sym (set.contains-empty _ q))

pub has_bits : (b q : ℕ) → b < 65536 → eqb (bit_and (b / 2 ^ q) 1) 1 ≡ set.contains (set_of b) q
has_bits b q within = ap (λ x. eqb x 1) (shr_and_one b q) ∙ sym (contains-set_of b q within)

pub union_bits : (a b : ℕ) → a < 65536 → b < 65536 → set_of (bit_or a b) ≡ set.union (set_of a) (set_of b)
union_bits a b wa wb = same-bits (bit_or a b) _ (or_lt 16 a b wa wb) (λ q.
    rw (set.contains-union nat_cmp_total, contains-set_of a q wa, contains-set_of b q wb, bit_at_or a b q) (grind (arith, nat_tests, bit_at-lt a q, bit_at-lt b q)))

pub difference_bits : (a b : ℕ) → a < 65536 → b < 65536 → set_of (bit_and a (65535 - b)) ≡ set.difference (set_of a) (set_of b)
difference_bits a b wa wb = same-bits (bit_and a (65535 - b)) _ (omega (arith, wa, and_le_l a (65535 - b))) (λ q.
    rw (set.contains-difference nat_cmp_total, contains-set_of a q wa, contains-set_of b q wb, bit_at_and a (65535 - b) q)
    (grind (arith, nat_tests, bit_at-lt a q, bit_at-lt b q, bit_at_above a 16 q wa, bit_at_not w16 b q wb)))

pub insert_bits : (b m : ℕ) → b < 65536 → m < 16 → set_of (bit_or b (1 * 2 ^ m % 65536)) ≡ set.insert (set_of b) m
insert_bits b m wb wm = same-bits (bit_or b (1 * 2 ^ m % 65536)) _ (or_lt 16 b (1 * 2 ^ m % 65536) wb (mod-lt (1 * 2 ^ m) (let z : 0 < 65536 = omega arith in z))) (λ q.
    elim (cases_eq q m) [
      | inl is ↦ rw is (ap (λ x. eqb x 1) (bit_at_set_same w16 b m wm) ∙ sym (contains-insert_same _ m))
      | inr ne ↦ ap (λ x. eqb x 1) (bit_at_set_other w16 b m wm q ne) ∙ sym (contains-insert_other _ m q ne ∙ contains-set_of b q wb)
    ])

ones-none : ones 0 ≡ 0
unfolding ones ones_in
ones-none = refl

len-none : (p : ℕ → Bool) → set.len (members_where 0 p) ≡ 0
unfolding members_where
len-none p = set.len-empty nat_cmp

-- one more place
len-more : (n : ℕ) (p : ℕ → Bool) → set.len (members_where (suc n) p) ≡ set.len (members_where n p) + cond (p n) 1 0
unfolding members_where
len-more n p = grind (arith, nat_tests, set.len-insert nat_cmp_total (members_where n p) n, contains-members_where n p n)

-- so the first place counts, and the others behind it
len-first : (n : ℕ) (p : ℕ → Bool) → set.len (members_where (suc n) p) ≡ cond (p 0) 1 0 + set.len (members_where n (λ k. p (suc k)))
len-first zero p = omega (arith, len-more 0 p, len-none p, len-none (λ k. p (suc k)))
len-first (suc n) p = omega (arith, len-more (suc n) p, len-more n (λ k. p (suc k)), len-first n p)

count-ones : (n b : ℕ) → b < 2 ^ n → ones b ≡ set.len (members_where n (has_one b))
count-ones zero b below = rw (let e : b ≡ 0 = omega (arith, below) in e) (ones-none ∙ sym (len-none _))
count-ones (suc n) b below =
    let later : (λ k. has_one b (suc k)) ≡ has_one (b / 2) = λ i k. eqb (bit_at-suc b k i) 1 in
    let rest = count-ones n (b / 2) (omega (arith, below)) ∙ ap (λ p. set.len (members_where n p)) (sym later) in
    ones_step b ∙ grind (arith, nat_tests, rest, len-first n (has_one b), bit_at_lowest b)

pub count_bits : (b : ℕ) → b < 65536 → ones b ≡ set.len (set_of b)
unfolding set_of
count_bits b within = count-ones 16 b within

pub below_sixteen : (b q : ℕ) → b < 65536 → set.contains (set_of b) q ≡ true → q < 16
below_sixteen b q within has = grind (arith, nat_tests, bit_at_above b 16 q within, contains-set_of b q within, has)
