-- What is lost at the last moment, and who is an orphan there.
use Rattle.fbl_judge.proofs.Common.{ℕ, Bool, true, false, ◌≡◌, ◌==◌, ◌<◌, ◌≤◌, ◌+◌, ◌↔◌, ◌⊎◌, inl, inr, List, [], ◌∷◌, ◌++◌, Option, length, Some, None, slice_get, slice_get_within, sym, ap, subst, ◌∙◌, arith}
use Rattle.fbl_judge.proofs.Common.{cases_eq, cases_lt, false≢true, nat_tests, Determinant, Members, contains-union, Entry, log_of, receipt_in, Position, at, DependsAt, IsReceiptAt, IsOrphanAt, StandsAt, seen, RunParts, run_of}
use Rattle.std.specs.FinSet as set
use Rattle.std.specs.List.{All}
use Rattle.fbl_judge.proofs.Common.{zero, suc}
use Rattle.std.specs.Cmp.{nat_cmp_total}
use Rattle.fbl_trace.proofs.Sets.{len-remove_one, some_member}
use Rattle.fbl_runs.proofs.Listing.{stands_at}
use Rattle.std.proofs.Common.{min}
use Rattle.std.proofs.Math.Nat.{min-eq_left, min_comm}
use Rattle.std.proofs.lemmas.Option.{get_or_from_slice_get}
use Rattle.fbl_trace.proofs.Gets.{At-front, At-push, At-seam}
use Rattle.fbl_runs.proofs.Listing.{seen-later}
use Rattle.fbl_judge.proofs.Common.{Dependence, Precedes, Stands}
use Rattle.fbl_runs.proofs.LeadsLaws.{one_position}
use Rattle.fbl_judge.specs.Paths.{IsDependentPlace}
use Rattle.fbl_judge.specs.Unsafe.{IsLeftOrphanAt}
use Rattle.fbl_judge.proofs.Common.{Cut}
use Rattle.fbl_judge.specs.Audits.{AreNamed, DependsOnAny, IsFirstOnAny, IsLost, IsNamedBy, end_of}
use Rattle.fbl_judge.specs.declared.audit.LostReceipt.{LostReceipt}
use Rattle.fbl_judge.proofs.Places.{one_entry, place_of, place_within, placed_at}

-- no holder is left exactly where nobody outside the members holds it
pub none_left : (holders members : Members) (Holds : ℕ → Type 0) → ((q : ℕ) → (set.contains holders q ≡ true) ↔ Holds q) → (b : Bool) → b ≡ (set.len (set.difference holders members) == 0)
    → (b ≡ true) ↔ ((q : ℕ) → set.contains members q ≡ false → ¬ (Holds q))
none_left holders members Holds are b is = (
  λ none q out holds.
      let one = len-remove_one left q ((outside q).1 (out, (are q).1 holds)) in
      let len : set.len left ≡ 0 = grind (arith, nat_tests, is, none) in
      omega (arith, one, len),
  λ nobody. elim (cases_eq (set.len left) 0) [
    | inl none ↦ grind (arith, nat_tests, is, none)
    | inr more ↦
        let q = some_member left (omega (arith, more)) in
        let out = (outside q.0).0 q.1 in
        absurd (nobody q.0 out.0 ((are q.0).0 out.1))
  ],
) where
  left : Members
  left = set.difference holders members

  outside : (q : ℕ) → (set.contains (set.difference holders members) q ≡ true) ↔ ((set.contains members q ≡ false) × (set.contains holders q ≡ true))
  outside q = grind (arith, set.contains-difference nat_cmp_total holders members q)

-- a receipt is named by one determinant
pub one_determinant : (entries : List Entry) (i : Position) (a b : Determinant) → IsReceiptAt (log_of entries) a i → IsReceiptAt (log_of entries) b i → a ≡ b
one_determinant entries i a b is_a is_b =
    let entry : Some is_a.0 ≡ Some is_b.0 = sym is_a.1 ∙ is_b.1 in
    let same : is_a.0 ≡ is_b.0 = (cc) in
    let both : Some a ≡ Some b = sym is_a.2 ∙ ap receipt_in same ∙ is_b.2 in
    cc

-- what stands at the place of a receipt
pub receipt_at : (entries : List Entry) (p : ℕ) (i : Position) (e : Entry) (d : Determinant) → slice_get entries p ≡ Some e → Some d ≡ receipt_in e → StandsAt entries p i → IsReceiptAt (log_of entries) d i
receipt_at entries p i e d here is stands = (e, stands_at entries p i e stands here, sym is)

-- and at that of none
pub no_receipt : (entries : List Entry) (p : ℕ) (i : Position) (e : Entry) (d : Determinant) → slice_get entries p ≡ Some e → None ≡ receipt_in e → StandsAt entries p i → ¬ (IsReceiptAt (log_of entries) d i)
no_receipt entries p i e d here none stands is =
    let same : e ≡ is.0 = one_entry entries p e is.0 here (placed_at entries p i is.0 stands is.1) in
    let no' : None ≡ Some d = none ∙ ap receipt_in same ∙ is.2 in
    cc

-- the member depends at the last moment on a receipt at one of the first p places that the struck ones lose
abbrev pub DependsOnLost : RunParts → ℕ → ℕ → Type 0
DependsOnLost run p q = (place : ℕ) × (i : Position) × (place < p) × StandsAt run.entries place i × IsLost run i × DependsAt (log_of run.entries) (end_of run) i q

-- the members are those that do
abbrev pub AreDependents : RunParts → ℕ → Members → Type 0
AreDependents run p members = (q : ℕ) → (set.contains members q ≡ true) ↔ DependsOnLost run p q

pub none_dependents : (run : RunParts) (members : Members) → members ≡ set.empty → AreDependents run 0 members
none_dependents run members none q = (λ h. absurd (false≢true (sym (ap (λ s. set.contains s q) none ∙ set.contains-empty _ q) ∙ h)), λ h. absurd (let below = h.2 in omega (arith, below)))

-- an entry that is no lost receipt adds nobody
pub same_dependents : (run : RunParts) (p : ℕ) (members : Members) → ((i : Position) → StandsAt run.entries p i → ¬ (IsLost run i)) → AreDependents run p members → AreDependents run (p + 1) members
same_dependents run p members not are q = (
  λ h. (let r = (are q).0 h in (r.0, r.1, (let below = r.2 in omega (arith, below)), r.3, r.4, r.5)),
  λ h. elim (cases_eq h.0 p) [
    | inl same ↦ absurd (not h.1 (subst (λ (p : ℕ). StandsAt run.entries p h.1) same h.3) h.4)
    | inr other ↦ (are q).1 (h.0, h.1, (let below = h.2 in omega (arith, below, other)), h.3, h.4, h.5)
  ],
)

-- a lost receipt adds those that depend on it
pub more_dependents : (run : RunParts) (p : ℕ) (i : Position) (members more all : Members) → StandsAt run.entries p i → IsLost run i
    → ((q : ℕ) → (set.contains more q ≡ true) ↔ DependsAt (log_of run.entries) (end_of run) i q) → all ≡ set.union members more
    → AreDependents run p members → AreDependents run (p + 1) all
more_dependents run p i members more all at_i lost depend union are q = subst (λ (s : Members). (set.contains s q ≡ true) ↔ DependsOnLost run (p + 1) q) (sym union) (
  λ h. elim ((contains-union members more q).0 h) [
    | inl old ↦ (let r = (are q).0 old in (r.0, r.1, (let below = r.2 in omega (arith, below)), r.3, r.4, r.5))
    | inr new ↦ (p, i, omega arith, at_i, lost, (depend q).0 new)
  ],
  λ h. (contains-union members more q).1 (elim (cases_eq h.0 p) [
    | inl same ↦ inr ((depend q).1 (
        let one = one_position run.entries p h.1 i (subst (λ (p : ℕ). StandsAt run.entries p h.1) same h.3) at_i in
        subst (λ (i : Position). DependsAt (log_of run.entries) (end_of run) i q) one h.5))
    | inr other ↦ inl ((are q).1 (h.0, h.1, (let below = h.2 in omega (arith, below, other)), h.3, h.4, h.5))
  ]),
)

-- those of them that are left are the orphans
pub orphans : (run : RunParts) (p : ℕ) (members left : Members) → length run.entries ≤ p → AreDependents run p members → left ≡ set.difference members run.strike
    → (q : ℕ) → (set.contains left q ≡ true) ↔ IsOrphanAt (run_of run) (end_of run) run.strike q
orphans run p members left all are is q = subst (λ (s : Members). (set.contains s q ≡ true) ↔ IsOrphanAt (run_of run) (end_of run) run.strike q) (sym is) (
  λ h. (let out = outside.0 h in let r = (are q).0 out.1 in (out.0, (r.1, r.4, r.5))),
  λ h.
      let receipt = h.1.1.1.1 in
      let there = place_of run.entries h.1.0 receipt.0 receipt.1 in
      outside.1 (h.0, (are q).1 (there.0, h.1.0, (let below = place_within run.entries there.0 h.1.0 there.1 in omega (arith, below, all)), there.1, h.1.1, h.1.2)),
) where
  outside : (set.contains (set.difference members run.strike) q ≡ true) ↔ ((set.contains run.strike q ≡ false) × (set.contains members q ≡ true))
  outside = grind (arith, set.contains-difference nat_cmp_total members run.strike q)

-- one that is named
pub named_one : (run : RunParts) (i : Position) (receipt : LostReceipt) → IsNamedBy run i receipt → All (λ receipt. (i : Position) × IsNamedBy run i receipt) (receipt ∷ [])
named_one run i receipt named zero d below = (i, named)
named_one run i receipt named (suc k) d below = absurd (omega (arith, below))

-- each that is named is at its place
pub named_at : (run : RunParts) (lost : List LostReceipt) (k : ℕ) (receipt : LostReceipt) → AreNamed run lost → slice_get lost k ≡ Some receipt → (i : Position) × IsNamedBy run i receipt
named_at run lost k receipt named here =
    let within = slice_get_within lost k receipt here in
    subst (λ (receipt : LostReceipt). (i : Position) × IsNamedBy run i receipt) (get_or_from_slice_get lost k receipt receipt here) (named k receipt within)

-- ---- where orphans start

module _ (run : RunParts) (cut : Cut) (front : List LostReceipt) (receipt : LostReceipt) (member : ℕ) (i : Position) (at_i : StandsAt run.entries receipt.place i) where
  -- the entry is the member's, stands, and depends on the one receipt more
  abbrev DependsOnIt : ℕ → Type 0
  DependsOnIt place = (j : Position) × StandsAt run.entries place j × (j.member ≡ member) × Stands (log_of run.entries) cut j × Precedes Dependence (log_of run.entries) i j

  either : (place : ℕ) → DependsOnAny run cut (front ++ receipt ∷ []) member place → DependsOnAny run cut front member place ⊎ DependsOnIt place
  either place depends = elim (At-push front receipt depends.4.0 depends.4.1 depends.4.3) [
    | inl old ↦ inl (depends.0, depends.1, depends.2, depends.3, (depends.4.0, depends.4.1, depends.4.2, old, depends.4.4, depends.4.5))
    | inr new ↦ inr (
      depends.0,
      depends.1,
      depends.2,
      depends.3,
      (let own : StandsAt run.entries receipt.place depends.4.2 = subst (λ (r : LostReceipt). StandsAt run.entries r.place depends.4.2) (sym new.1) depends.4.4 in
          subst (λ (k : Position). Precedes Dependence (log_of run.entries) k depends.0) (one_position run.entries receipt.place depends.4.2 i own at_i) depends.4.5),
    )
  ]

  of_front : (place : ℕ) → DependsOnAny run cut front member place → DependsOnAny run cut (front ++ receipt ∷ []) member place
  of_front place depends = (depends.0, depends.1, depends.2, depends.3, (depends.4.0, depends.4.1, depends.4.2, At-front front (receipt ∷ []) depends.4.0 depends.4.1 depends.4.3, depends.4.4, depends.4.5))

  -- where no entry of the member does, the first stays
  pub any_none : (first : Option ℕ) → IsFirstOnAny run cut front member first → ¬ (DependsAt (log_of run.entries) cut i member) → IsFirstOnAny run cut (front ++ receipt ∷ []) member first
  any_none first is none = by_first first is where
    no_one : (place : ℕ) → ¬ (DependsOnIt place)
    no_one place it = none (subst (DependsAt (log_of run.entries) cut i) it.2 (it.0.number, it.4, it.3))

    by_first : (first : Option ℕ) → IsFirstOnAny run cut front member first → IsFirstOnAny run cut (front ++ receipt ∷ []) member first
    by_first None is = λ place depends. elim (either place depends) [ inl old ↦ is place old | inr new ↦ no_one place new ]
    by_first (Some f) is = (of_front f is.0, λ other below depends. elim (either other depends) [ inl old ↦ is.1 other below old | inr new ↦ no_one other new ])

  -- where one does, the first of the two
  module _ (place : ℕ) (is : IsDependentPlace run i cut member place) where
    it_at : DependsOnAny run cut (front ++ receipt ∷ []) member place
    it_at = (is.0, is.1, is.2, is.3.stands, (length front, receipt, i, At-seam front receipt [], at_i, is.3.depends))

    none_before : (other : ℕ) → other < place → ¬ (DependsOnIt other)
    none_before other below it =
        let later = seen-later run.entries other place member it.1.0 it.1.1 (it.1.2 ∙ it.2) below in
        let a : seen run.entries other member ≡ it.0.number = ap (seen run.entries other) (sym it.2) ∙ it.1.3 in
        let b : seen run.entries place member ≡ is.0.number = ap (seen run.entries place) (sym is.2) ∙ is.1.3 in
        let own : it.0.member ≡ is.0.member = it.2 ∙ sym is.2 in
        is.3.first it.0.number (omega (arith, later, a, b)) (subst (λ (m : ℕ). Precedes Dependence (log_of run.entries) i (at m it.0.number)) own it.4)
        (subst (λ (m : ℕ). Stands (log_of run.entries) cut (at m it.0.number)) own it.3)

    pub any_first : IsFirstOnAny run cut front member None → IsFirstOnAny run cut (front ++ receipt ∷ []) member (Some place)
    any_first none = (it_at, λ other below depends. elim (either other depends) [ inl old ↦ none other old | inr new ↦ none_before other below new ])

    pub any_min : (f least : ℕ) → least ≡ min f place → IsFirstOnAny run cut front member (Some f) → IsFirstOnAny run cut (front ++ receipt ∷ []) member (Some least)
    any_min f least same first = elim (cases_lt place f) [
      | inl less ↦
          let here : place ≡ least = sym (same ∙ min_comm f place ∙ min-eq_left (omega (arith, less))) in
          subst (λ (p : ℕ). IsFirstOnAny run cut (front ++ receipt ∷ []) member (Some p)) here
          (it_at, λ other below depends. elim (either other depends) [ inl old ↦ first.1 other (omega (arith, below, less)) old | inr new ↦ none_before other below new ])
      | inr more ↦
          let here : f ≡ least = sym (same ∙ min-eq_left (omega (arith, more))) in
          subst (λ (p : ℕ). IsFirstOnAny run cut (front ++ receipt ∷ []) member (Some p)) here
          (of_front f first.0, λ other below depends. elim (either other depends) [ inl old ↦ first.1 other below old | inr new ↦ none_before other (omega (arith, below, more)) new ])
    ]

-- of those that depend on a receipt those that are not struck
pub left_orphans : (run : RunParts) (cut : Cut) (i : Position) (dependents left : Members) → left ≡ set.difference dependents run.strike
    → ((q : ℕ) → (set.contains dependents q ≡ true) ↔ DependsAt (log_of run.entries) cut i q) → (q : ℕ) → (set.contains left q ≡ true) ↔ IsLeftOrphanAt (run_of run) cut run.strike i q
left_orphans run cut i dependents left is are q = subst (λ (s : Members). (set.contains s q ≡ true) ↔ IsLeftOrphanAt (run_of run) cut run.strike i q) (sym is) (
  λ h. (let o = out.0 h in (o.0, (are q).0 o.1)),
  λ h. out.1 (h.0, (are q).1 h.1),
) where
  out : (set.contains (set.difference dependents run.strike) q ≡ true) ↔ ((set.contains run.strike q ≡ false) × (set.contains dependents q ≡ true))
  out = grind (arith, set.contains-difference nat_cmp_total dependents run.strike q)

-- whether a set has a member
pub some_one : (s : Members) (b : Bool) → b ≡ (set.len s == 0) → b ≡ false → (q : ℕ) × (set.contains s q ≡ true)
some_one s b is not_empty = elim (cases_eq (set.len s) 0) [
  | inl none ↦ absurd (let empty : (set.len s == 0) ≡ true = grind (arith, nat_tests, none) in false≢true (sym not_empty ∙ is ∙ empty))
  | inr more ↦ some_member s (omega (arith, more))
]

pub no_one : (s : Members) (b : Bool) → b ≡ (set.len s == 0) → b ≡ true → (q : ℕ) → ¬ (set.contains s q ≡ true)
no_one s b is empty q has =
    let len : set.len s ≡ 0 = grind (arith, nat_tests, is, empty) in
    let one = len-remove_one s q has in
    omega (arith, one, len)
