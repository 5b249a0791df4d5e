-- A run is always safe exactly where it is at the least moments, for each set of restarts, at which the members depend on its receipts.
use Rattle.fbl_judge.proofs.Common.{ℕ, zero, suc, Bool, true, false, ◌≡◌, ◌<◌, ◌≤◌, ◌+◌, ◌⊎◌, ◌↔◌, inl, inr, List, length, refl, sym, ap, subst, ◌∙◌, arith}
use Rattle.fbl_judge.proofs.Common.{cases_eq, cases_lt, false≢true, slice_get_within, Determinant, len-within, contains-union}
use Rattle.fbl_judge.proofs.Common.{Dependence, Entry, Hold, Logs, log_of, IsAt, Position, Precedes, at, StandsBehind, Cut, HasCome, AllBelow, Members, AreEntries, Run, AlwaysSafe, IsSafeFromTheFirst, last_cut}
use Rattle.fbl_judge.proofs.Common.{DependsAt, HoldsAt, IsStoredAt, IsLeastDependent, IsMoment, SameRestarts, AreStruckOrHold, LosesAt, MayBeLost, bound}
use Rattle.fbl_trace.specs.MemberSets.{contains-insert_same, contains-insert_other}
use Rattle.std.proofs.Common.{min, nat_cmp}
use Rattle.std.specs.FinSet as set
use Rattle.fbl_runs.proofs.Listing.{locate_all, some_entry}
use Rattle.fbl_runs.proofs.ClockLaws.{last_there}
use Rattle.fbl_judge.proofs.MomentLaws.{happened, holds_later, meet, meet_moment, min_and, moment_closed, stands_earlier, stands_less, stored_later, within_moment}

-- ---- sets of members

-- it cannot be that no set has just the members of which P holds
pub some_set : (P : ℕ → Type 0) (n : ℕ) → ((s : Members) → ((q : ℕ) → (set.contains s q ≡ true) ↔ (q < n) × P q) → ⊥) → ⊥
some_set P zero no' = no' set.empty (λ q. (λ h. absurd (false≢true (sym (set.contains-empty nat_cmp q) ∙ h)), λ h. absurd (omega (arith, h.0))))
some_set P (suc n) no' = some_set P n (λ s is. lacks s is (λ holds. has s is holds)) where
  has : (s : Members) → ((q : ℕ) → (set.contains s q ≡ true) ↔ (q < n) × P q) → P n → ⊥
  has s is holds = no' (set.insert s n) (λ q. elim (cases_eq q n) [
    | inl same ↦ (
      λ h. (omega (arith, same), subst P (sym same) holds),
      λ h. ap (set.contains (set.insert s n)) same ∙ contains-insert_same s n,
    )
    | inr ne ↦ (
      λ h. (let r = (is q).0 (sym (contains-insert_other s n q ne) ∙ h) in (omega (arith, r.0), r.1)),
      λ h. contains-insert_other s n q ne ∙ (is q).1 (omega (arith, h.0, ne), h.1),
    )
  ])

  lacks : (s : Members) → ((q : ℕ) → (set.contains s q ≡ true) ↔ (q < n) × P q) → ¬ (P n) → ⊥
  lacks s is none = no' s (λ q. (
    λ h. (let r = (is q).0 h in (omega (arith, r.0), r.1)),
    λ h. elim (cases_eq q n) [
      | inl same ↦ absurd (none (subst P same h.1))
      | inr ne ↦ (is q).1 (omega (arith, h.0, ne), h.1)
    ],
  ))

-- ---- least cuts

-- how many entries of the first n members have come
pub total : Cut → ℕ → ℕ
total cut zero = 0
total cut (suc n) = total cut n + cut n

fewer : (a b : Cut) → ((q : ℕ) → a q ≤ b q) → (n : ℕ) → total a n ≤ total b n
unfolding total
fewer a b below zero = omega arith
fewer a b below (suc n) = (let rest = fewer a b below n in let own = below n in omega (arith, rest, own))

fewest : (a b : Cut) → ((q : ℕ) → a q ≤ b q) → (n q : ℕ) → q < n → a q < b q → total a n < total b n
unfolding total
fewest a b below zero q within less = absurd (omega (arith, within))
fewest a b below (suc n) q within less = elim (cases_eq q n) [
  | inl same ↦ (let rest = fewer a b below n in let own : a n < b n = subst (λ (q : ℕ). a q < b q) same less in omega (arith, rest, own))
  | inr ne ↦ (let rest = fewest a b below n q (omega (arith, within, ne)) less in let own = below n in omega (arith, rest, own))
]

min_left : (a b : ℕ) → min a b ≤ a
min_left a b = grind arith

min_less : (a b : ℕ) → b < a → min a b < a
min_less a b less = grind arith

-- it cannot be that of cuts that have with any two their meet none is the least
pub some_least : (S : Cut → Type 0) → ((a b : Cut) → S a → S b → S (meet a b)) → (few : ℕ) (cut : Cut) → total cut 16 < few → S cut → ((q : ℕ) → 16 ≤ q → cut q ≡ 0)
    → ((least : Cut) → S least → ((other : Cut) → S other → (q : ℕ) → least q ≤ other q) → ((q : ℕ) → least q ≤ cut q) → ⊥) → ⊥
some_least S meets zero cut few is beyond no' = omega (arith, few)
some_least S meets (suc n) cut few is beyond no' = no' cut is (λ other has q. elim (cases_lt (other q) (cut q)) [
  | inr fine ↦ fine
  | inl less ↦ absurd (
      let below : (p : ℕ) → meet cut other p ≤ cut p = λ p. min_left (cut p) (other p) in
      let own : meet cut other q < cut q = min_less (cut q) (other q) less in
      let within : q < 16 = elim (cases_lt q 16) [ inl fine ↦ fine | inr past ↦ absurd (let none = beyond q past in omega (arith, none, less)) ] in
      let less' = fewest (meet cut other) cut below 16 q within own in
      some_least S meets n (meet cut other) (omega (arith, less', few)) (meets cut other is has)
      (λ p past. (let none = beyond p past in let b = below p in omega (arith, none, b)))
      (λ least of_least under within'. no' least of_least under (λ p. (let x = within' p in let b = below p in omega (arith, x, b)))))
]) (λ q. omega arith)

-- ---- the theorem

module _ (run : Run) (entries : List Entry) (is : run.logs ≡ log_of entries) (rules : AreEntries run.members entries) (struck : AllBelow run.strike run.members) where
  -- who has an entry is of the group
  pub of_group : (q k : ℕ) (e : Entry) → IsAt run.logs (at q k) e → q < run.members
  of_group q k e here =
      let P : Logs → Type 0 = λ logs. IsAt logs (at q k) e in
      let w = locate_all entries q k e (subst P is here) in
      (rw w.3 at (rules.members w.0 e w.2))

  -- there are no entries of others
  pub none_beyond : (q : ℕ) → 16 ≤ q → length (run.logs q) ≡ 0
  none_beyond q past = elim (cases_lt 0 (length (run.logs q))) [
    | inr none ↦ omega (arith, none)
    | inl some ↦ absurd (
        let e = some_entry (run.logs q) 0 some in
        let below = of_group q 0 e.0 e.1 in
        let size = rules.size.1 in
        omega (arith, below, size, past))
  ]

  -- it cannot be that no members are just those struck and those that hold the determinant at a moment
  pub some_struck_or_hold : (cut : Cut) (d : Determinant) → ((members : Members) → AreStruckOrHold run cut d members → ⊥) → ⊥
  some_struck_or_hold cut d no' = some_set (λ q. HoldsAt run.logs cut d q) run.members (λ s has. no' (set.union run.strike s) (λ q. (
    λ h. elim ((contains-union run.strike s q).0 h) [
      | inl x ↦ inl x
      | inr x ↦ inr ((has q).0 x).1
    ],
    λ h. (contains-union run.strike s q).1 (elim h [
      | inl x ↦ inl x
      | inr x ↦ inr ((has q).1 (of_group q x.0 (Hold q d) x.1, x))
    ]),
  )))

  -- the struck and the holders may be lost where they are few enough, and then lose the receipt if it is not stored
  pub may_be_lost : (cut : Cut) (d : Determinant) (members : Members) → AreStruckOrHold run cut d members → set.len members ≤ bound run → MayBeLost run members
  may_be_lost cut d members are few = record {
    below = λ q h. elim ((are q).0 h) [ inl x ↦ struck q x | inr x ↦ of_group q x.0 (Hold q d) x.1 ];
    struck = λ q h. (are q).1 (inl h);
    few = few;
  }

  pub loses : (cut : Cut) (d : Determinant) (members : Members) → AreStruckOrHold run cut d members → ¬ (IsStoredAt run.logs cut d) → LosesAt run cut members d
  loses cut d members are unstored = (unstored, λ q out holds. false≢true (sym out ∙ (are q).1 (inr holds)))

  -- what an always safe run has
  safe_from_first : AlwaysSafe run → IsSafeFromTheFirst run
  safe_from_first safe i d q cut receipt least stands unstored members are = at_test (set.contains members q) refl where
    at_test : (b : Bool) → set.contains members q ≡ b → (set.contains members q ≡ true) ⊎ (bound run < set.len members)
    at_test true has = inl has
    at_test false out = elim (cases_lt (bound run) (set.len members)) [
      | inl more ↦ inr more
      | inr few ↦ absurd (safe cut least.moment members (may_be_lost cut d members are few) q
          (out, (i, (stands, (d, receipt, loses cut d members are unstored)), least.depends)))
    ]

  -- members that may be lost and lose the receipt have those struck and those that hold it
  pub lost_contains : (cut : Cut) (members : Members) → MayBeLost run members → (d : Determinant) → LosesAt run cut members d
      → (r : ℕ) → (set.contains run.strike r ≡ true) ⊎ HoldsAt run.logs cut d r → set.contains members r ≡ true
  lost_contains cut members may d lost r (inl struck_r) = may.struck r struck_r
  lost_contains cut members may d lost r (inr holds) = at_test (set.contains members r) refl where
    at_test : (b : Bool) → set.contains members r ≡ b → set.contains members r ≡ true
    at_test true has = has
    at_test false out = absurd (lost.1 r out holds)

  -- at a moment whose restarts are just those of the other, at which a member depends on a receipt
  abbrev pub IsAlike : Cut → Position → ℕ → Cut → Type 0
  IsAlike cut i q other = IsMoment run.logs other × SameRestarts run.logs cut other × DependsAt run.logs other i q

  alike_meets : (cut : Cut) (i : Position) (q : ℕ) (a b : Cut) → IsAlike cut i q a → IsAlike cut i q b → IsAlike cut i q (meet a b)
  alike_meets cut i q a b of_a of_b = (
    meet_moment run.logs a b of_a.0 of_b.0,
    λ r. (
      λ h. (let in_a = (of_a.1 r).0 h in let in_b = (of_b.1 r).0 h in (h.0, h.1, (let x = in_a.2 in let y = in_b.2 in (min_and (a r.member) (b r.member) r.number).1 (x, y)))),
      λ h. (of_a.1 r).1 (h.0, h.1, (let x = h.2 in let y = min_left (a r.member) (b r.member) in omega (arith, x, y))),
    ),
    elim (one_of (a q) (b q)) [
      | inl same ↦ subst (λ (x : ℕ). (k : ℕ) × Precedes Dependence run.logs i (at q k) × StandsBehind (run.logs q) k x) (sym same) of_a.2
      | inr same ↦ subst (λ (x : ℕ). (k : ℕ) × Precedes Dependence run.logs i (at q k) × StandsBehind (run.logs q) k x) (sym same) of_b.2
    ],
  ) where
    one_of : (x y : ℕ) → (min x y ≡ x) ⊎ (min x y ≡ y)
    one_of x y = elim (cases_lt x y) [ inl less ↦ inl (grind arith) | inr more ↦ inr (grind arith) ]

  -- it cannot be that there is no least moment with the same restarts at which the member depends on the receipt
  pub some_least_dependent : (cut : Cut) → IsMoment run.logs cut → (i : Position) (q : ℕ) → DependsAt run.logs cut i q
      → ((least : Cut) → IsLeastDependent run.logs i q least → SameRestarts run.logs cut least → ((p : ℕ) → least p ≤ cut p) → ⊥) → ⊥
  some_least_dependent cut moment i q depends no' =
      let upto : Cut = meet cut (last_cut run.logs) in
      let there = last_there depends.1 in
      let within = slice_get_within (run.logs q) depends.0 there.0 there.1 in
      let come : depends.0 < upto q = (min_and (cut q) (length (run.logs q)) depends.0).1 (depends.2.0, within) in
      let same : SameRestarts run.logs cut upto = λ r. (
        λ h. (h.0, h.1, (let x = slice_get_within (run.logs r.member) r.number _ h.1 in (min_and (cut r.member) (length (run.logs r.member)) r.number).1 (h.2, x))),
        λ h. (h.0, h.1, (let x = h.2 in let y = min_left (cut r.member) (length (run.logs r.member)) in omega (arith, x, y))),
      ) in
      let stands = stands_less (run.logs q) depends.0 (upto q) (cut q) come (min_left (cut q) (length (run.logs q))) depends.2 in
      some_least (IsAlike cut i q) (alike_meets cut i q) (suc (total upto 16)) upto (omega arith) (within_moment run.logs cut moment, same, (depends.0, depends.1, stands))
      (λ p past. (let none = none_beyond p past in zero_min (cut p) (length (run.logs p)) none))
      (λ least is_least under below. no' least
      (record { moment = is_least.0; depends = is_least.2; least = λ other moment' same' depends' p. under other (moment', (λ r. (λ h. (same' r).0 ((is_least.1 r).0 h), λ h. (is_least.1 r).1 ((same' r).1 h))), depends') p })
      is_least.1 (λ p. (let x = below p in let y = min_left (cut p) (length (run.logs p)) in omega (arith, x, y)))) where
        zero_min : (x y : ℕ) → y ≡ 0 → min x y ≡ 0
        zero_min x y none = grind arith

  -- what has come by a moment at which a member depends on it has come there
  pub come_there : (cut : Cut) → IsMoment run.logs cut → (i : Position) (q : ℕ) → DependsAt run.logs cut i q → HasCome cut i
  come_there cut moment i q depends = moment_closed cut moment (happened depends.1) depends.2.0

  safe_always : IsSafeFromTheFirst run → AlwaysSafe run
  safe_always safe cut moment members may q orphan =
      let i = orphan.1.0 in
      let lost = orphan.1.1 in
      let d = lost.1.0 in
      some_least_dependent cut moment i q orphan.1.2 (λ least is_least same before.
      let stands = stands_earlier run.logs least cut before i (come_there least is_least.moment i q is_least.depends) lost.0 in
      some_struck_or_hold least d (λ holders are.
      let within = λ (r : ℕ) (h : set.contains holders r ≡ true). lost_contains cut members may d lost.1.2 r
      (elim ((are r).0 h) [ inl x ↦ inl x | inr x ↦ inr (holds_later run.logs least cut before (λ p. (same p).0) d r x) ]) in
      elim (safe i d q least lost.1.1 is_least stands (λ stored. lost.1.2.0 (stored_later run.logs least cut before d stored)) holders are) [
        | inl one ↦ false≢true (sym orphan.0 ∙ within q one)
        | inr many ↦ (let few = may.few in let fewer' = len-within (set.len holders) holders members refl within in omega (arith, many, few, fewer'))
      ]))

  pub always_safe : AlwaysSafe run ↔ IsSafeFromTheFirst run
  always_safe = (safe_from_first, safe_always)
