-- Which of several entries are the first.
use Rattle.fbl_verdicts.proofs.Common.{ℕ, ◌≡◌, ◌<◌, ◌≤◌, ◌+◌, ◌∙◌, ◌++◌, inl, inr, zero, suc, Option, Some, None, List, [], ◌∷◌}
use Rattle.fbl_verdicts.proofs.Common.{get_or, length, refl, sym, ap, subst, arith, cases_eq}
use Rattle.std.proofs.Common.{min, set, slice_get}
use Rattle.std.proofs.Math.Nat.{min-eq_left, min_comm}
use Rattle.std.proofs.lemmas.Bool.{cases_lt}
use Rattle.fbl_trace.proofs.Common.{slice_get_within, ◌≢◌}
use Rattle.fbl_trace.proofs.Gets.{At-front, At-push, At-seam}
use Rattle.fbl_runs.specs.Clocks.{seen}
use Rattle.fbl_runs.specs.Entries.{log_of}
use Rattle.fbl_runs.specs.HappenedBefore.{Position, Precedes}
use Rattle.fbl_runs.specs.Rules.{AreLawful}
use Rattle.fbl_runs.specs.declared.causality.Causality.TheVariants.{HappenedBefore}
use Rattle.fbl_runs.specs.declared.entry.Entry.{Entry}
use Rattle.fbl_runs.proofs.ClockLaws.{Precedes-joined}
use Rattle.fbl_runs.proofs.LeadsLaws.{one_position, there_at}
use Rattle.fbl_runs.proofs.Listing.{seen_mono}
use Rattle.fbl_runs.proofs.LivedLaws.{set_here}
use Rattle.fbl_judge.proofs.MomentLaws.{own_before}
use Rattle.fbl_judge.proofs.Places.{one_place, precedes_later}
use Rattle.fbl_judge.proofs.Restarts.{some_is}
use Rattle.fbl_verdicts.specs.Overviews.{AreEarliest, AreFirstOf, HappenedBeforeAt, IsEntryOf, IsOneOf, NoneHappenedBefore}

pub get_elsewhere : {X : Type 0} (xs : List X) (i j : ℕ) (v : X) → j ≢ i → slice_get (set xs i v) j ≡ slice_get xs j
get_elsewhere [] i j v other = refl
get_elsewhere (y ∷ xs) zero zero v other = absurd (other refl)
get_elsewhere (y ∷ xs) zero (suc j) v other = refl
get_elsewhere (y ∷ xs) (suc i) zero v other = refl
get_elsewhere (y ∷ xs) (suc i) (suc j) v other = get_elsewhere xs i j v (λ same. other (ap suc same))

-- what is read there, where it is some
pub some_at : (xs : List (Option ℕ)) (i p : ℕ) → get_or xs i None ≡ Some p → slice_get xs i ≡ Some (Some p)
some_at [] i p is = absurd cc
some_at (x ∷ xs) zero p is = ap Some is
some_at (x ∷ xs) (suc i) p is = some_at xs i p is

-- ---- what happened before, by places

module _ (entries : List Entry) where
  pub before_joined : (a b c : ℕ) → HappenedBeforeAt entries a b → HappenedBeforeAt entries b c → HappenedBeforeAt entries a c
  before_joined a b c ab bc =
      let same = one_position entries b bc.0 ab.1 bc.2 ab.3 in
      (ab.0, bc.1, ab.2, bc.3, Precedes-joined ab.4 (subst (λ (i : Position). Precedes HappenedBefore (log_of entries) i bc.1) same bc.4))

  -- of two entries of a member the one that is listed first
  pub own_before_at : (m p q : ℕ) → IsEntryOf entries m p → IsEntryOf entries m q → p ≤ q → HappenedBeforeAt entries p q
  own_before_at m p q is_p is_q order =
      let i = is_p.0 in
      let j = is_q.0 in
      let a = there_at entries p i is_p.1 in
      let b = there_at entries q j is_q.1 in
      let member : i.member ≡ j.member = is_p.2 ∙ sym is_q.2 in
      let rise = seen_mono entries p q i.member order in
      let first = is_p.1.3 in
      let second : seen entries q i.member ≡ j.number = ap (seen entries q) member ∙ is_q.1.3 in
      (i, j, is_p.1, is_q.1, own_before (log_of entries) i j a.0 b.0 member (omega (arith, rise, first, second)) a.1 b.1)

  -- two entries that happened before one another are one
  pub same_both : (n : ℕ) → AreLawful n entries → (a b : ℕ) → HappenedBeforeAt entries a b → HappenedBeforeAt entries b a → a ≡ b
  same_both n lawful a b ab ba = elim (precedes_later n entries lawful a b ab.2 ab.3 ab.4) [
    | inl same ↦ one_place entries a b ab.0 ab.1 ab.2 ab.3 same
    | inr less ↦ elim (precedes_later n entries lawful b a ba.2 ba.3 ba.4) [
      | inl same ↦ sym (one_place entries b a ba.0 ba.1 ba.2 ba.3 same)
      | inr more ↦ absurd (omega (arith, less, more))
    ]
  ]

-- ---- the earliest place of each member

module _ (entries : List Entry) (places : List ℕ) (old : List (Option ℕ)) (are : AreEarliest entries places old) (place number : ℕ)
    (own : IsEntryOf entries number place) where
  abbrev IsWith : ℕ → Type 0
  IsWith least = AreEarliest entries (places ++ place ∷ []) (set old number (Some least))

  -- the least of them is kept
  kept : (o : Option ℕ) (least : ℕ) → slice_get old number ≡ Some o → IsOneOf (places ++ place ∷ []) least → IsEntryOf entries number least
      → HappenedBeforeAt entries least place → ((other : ℕ) → o ≡ Some other → HappenedBeforeAt entries least other) → IsWith least
  kept o least there one of before others = record {
    each = λ m p here. elim (cases_eq m number) [
      | inl same ↦
          let both : Some (Some least) ≡ Some (Some p) = sym new ∙ ap (slice_get (set old number (Some least))) (sym same) ∙ here in
          let is : least ≡ p = cc in
          subst (λ (p : ℕ). IsOneOf (places ++ place ∷ []) p × IsEntryOf entries m p) is (one, (of.0, of.1, of.2 ∙ sym same))
      | inr ne ↦
          let r = are.each m p (sym (get_elsewhere old number m (Some least) ne) ∙ here) in
          ((r.0.0, At-front places (place ∷ []) r.0.0 p r.0.1), r.1)
    ];
    all = λ p is. elim (At-push places place is.0 p is.1) [
      | inr last ↦ (number, least, new, subst (HappenedBeforeAt entries least) last.1 before)
      | inl front ↦ (let r = are.all p (is.0, front) in elim (cases_eq r.0 number) [
        | inl same ↦
            let both : Some o ≡ Some (Some r.1) = sym there ∙ ap (slice_get old) (sym same) ∙ r.2 in
            let is_old : o ≡ Some r.1 = cc in
            (number, least, new, before_joined entries least r.1 p (others r.1 is_old) r.3)
        | inr ne ↦ (r.0, r.1, get_elsewhere old number r.0 (Some least) ne ∙ r.2, r.3)
      ])
    ];
  } where
    new : slice_get (set old number (Some least)) number ≡ Some (Some least)
    new = set_here old number o (Some least) there

  last : IsOneOf (places ++ place ∷ []) place
  last = (length places, At-seam places place [])

  itself : HappenedBeforeAt entries place place
  itself = own_before_at entries number place place own own (omega arith)

  -- where the member has none yet
  pub earliest_first : slice_get old number ≡ Some None → IsWith place
  earliest_first there = kept None place there last own itself (λ other none. absurd cc)

  -- and where it has one
  pub earliest_least : (other : ℕ) → slice_get old number ≡ Some (Some other) → IsWith (min other place)
  earliest_least other there = elim (cases_lt place other) [
    | inl less ↦ subst IsWith (sym (min_comm other place ∙ min-eq_left (omega (arith, less)))) (kept (Some other) place there last own itself
        (λ o same. subst (HappenedBeforeAt entries place) (some_is same) (own_before_at entries number place other own r.1 (omega (arith, less)))))
    | inr more ↦ subst IsWith (sym (min-eq_left (omega (arith, more))))
        (kept (Some other) other there (r.0.0, At-front places (place ∷ []) r.0.0 other r.0.1) r.1
        (own_before_at entries number other place r.1 own more)
        (λ o same. subst (HappenedBeforeAt entries other) (some_is same) (own_before_at entries number other other r.1 r.1 (omega arith))))
  ] where
    r : IsOneOf places other × IsEntryOf entries number other
    r = are.each number other there

-- ---- those of them before which none happened

-- the earliest place of the member is this one, and none happened before
abbrev IsChosen : List Entry → List (Option ℕ) → ℕ → ℕ → Type 0
IsChosen entries earliest m place = (slice_get earliest m ≡ Some (Some place)) × NoneHappenedBefore entries earliest place

-- the places are those of the first n members that are
pub record AreChosen (entries : List Entry) (earliest : List (Option ℕ)) (n : ℕ) (firsts : List ℕ) : Type 0 where
  pub each : (k place : ℕ) → slice_get firsts k ≡ Some place → (m : ℕ) × (m < n) × IsChosen entries earliest m place
  pub all : (m place : ℕ) → m < n → IsChosen entries earliest m place → IsOneOf firsts place
  pub once : (k l place : ℕ) → slice_get firsts k ≡ Some place → slice_get firsts l ≡ Some place → k ≡ l

pub none_chosen : (entries : List Entry) (earliest : List (Option ℕ)) → AreChosen entries earliest 0 []
none_chosen entries earliest = record {
  each = λ k p at. absurd cc;
  all = λ m p below. absurd (omega (arith, below));
  once = λ k l p at. absurd cc;
}

module _ (entries : List Entry) (places : List ℕ) (earliest : List (Option ℕ)) (are : AreEarliest entries places earliest) (n : ℕ)
    (firsts : List ℕ) (chosen : AreChosen entries earliest n firsts) where
  -- one more that is
  pub chosen_more : (place : ℕ) → IsChosen entries earliest n place → AreChosen entries earliest (n + 1) (firsts ++ place ∷ [])
  chosen_more place is = record {
    each = λ k p at_k. elim (At-push firsts place k p at_k) [
      | inl old ↦ (let r = chosen.each k p old in (r.0, (let below = r.1 in omega (arith, below)), r.2))
      | inr last ↦ (n, omega arith, subst (IsChosen entries earliest n) last.1 is)
    ];
    all = λ m p below chosen_p. elim (cases_eq m n) [
      | inl same ↦
          let both : Some (Some place) ≡ Some (Some p) = sym is.0 ∙ ap (slice_get earliest) (sym same) ∙ chosen_p.0 in
          let is_p : place ≡ p = cc in
          (length firsts, At-seam firsts place [] ∙ ap Some is_p)
      | inr ne ↦ (let k = chosen.all m p (omega (arith, below, ne)) chosen_p in (k.0, At-front firsts (place ∷ []) k.0 p k.1))
    ];
    once = λ k l p at_k at_l. elim (At-push firsts place k p at_k) [
      | inl old ↦ elim (At-push firsts place l p at_l) [
        | inl old' ↦ chosen.once k l p old old'
        | inr last ↦ absurd (not_old k p last.1 old)
      ]
      | inr last ↦ elim (At-push firsts place l p at_l) [
        | inl old ↦ absurd (not_old l p last.1 old)
        | inr last' ↦ last.0 ∙ sym last'.0
      ]
    ];
  } where
    not_old : (k p : ℕ) → place ≡ p → ¬ (slice_get firsts k ≡ Some p)
    not_old k p same old =
        let r = chosen.each k p old in
        let a = (are.each r.0 p r.2.0).1 in
        let b = (are.each n p (is.0 ∙ ap (λ (p : ℕ). Some (Some p)) same)).1 in
        let one : r.0 ≡ n = sym a.2 ∙ ap (λ (j : Position). j.member) (one_position entries p a.0 b.0 a.1 b.1) ∙ b.2 in
        (let below = r.1 in omega (arith, below, one))

  -- one that is not
  pub chosen_same : ((place : ℕ) → ¬ (IsChosen entries earliest n place)) → AreChosen entries earliest (n + 1) firsts
  chosen_same not = record {
    each = λ k p at_k. (let r = chosen.each k p at_k in (r.0, (let below = r.1 in omega (arith, below)), r.2));
    all = λ m p below is. elim (cases_eq m n) [
      | inl same ↦ absurd (not p (subst (λ (m : ℕ). IsChosen entries earliest m p) same is))
      | inr ne ↦ chosen.all m p (omega (arith, below, ne)) is
    ];
    once = chosen.once;
  }

  -- where all are looked at
  pub chosen_all : (g : ℕ) → AreLawful g entries → length earliest ≤ n → AreFirstOf entries places firsts
  chosen_all g lawful all = record {
    exactly = λ place. (
      λ is.
          let r = chosen.each is.0 place is.1 in
          record {
            one = (are.each r.0 place r.2.0).0;
            first = λ other one before. (
                let f = are.all other one in
                let same = r.2.1 f.0 f.1 f.2 (before_joined entries f.1 other place f.3 before) in
                same_both entries g lawful other place before (subst (λ (p : ℕ). HappenedBeforeAt entries p other) same f.3));
          },
      λ is.
          let f = are.all place is.one in
          let same = is.first f.1 (are.each f.0 f.1 f.2).0 f.3 in
          let below = slice_get_within earliest f.0 (Some f.1) f.2 in
          let none : NoneHappenedBefore entries earliest place = λ m other at_m before. is.first other (are.each m other at_m).0 before in
          chosen.all f.0 place (omega (arith, below, all)) (f.2 ∙ ap (λ (p : ℕ). Some (Some p)) same, none),
    );
    once = chosen.once;
  }
