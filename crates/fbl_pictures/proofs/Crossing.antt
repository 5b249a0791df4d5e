-- Where the line of a moment crosses the members' lines, as a pass over the entries finds it.
use Rattle.fbl_pictures.proofs.Common.{ℕ, ◌+◌, ◌<◌, ◌≤◌, ◌≡◌, ◌≢◌, List, Option, Some, None, length, slice_get, inl, inr, refl, sym, ap, ◌∙◌, subst, arith, get_or, cases_eq, cases_lt, nat_tests, true, false, cond, ◌==◌, Entry, column_in, is_some, set, get_or-set_same, get_or-set_other, add-one, length-set, entry_member, log_of, HasPassed, IsBehind, IsBeyond, IsCrossing, IsEnd, seen, Columns}
use Rattle.std.specs.Prelude.{min}
use Rattle.fbl_runs.proofs.Listing.{locate_all, seen_mono, seen-later, seen-other, seen-own, some_entry}
use Rattle.fbl_runs.specs.HappenedBefore.{at}
use Rattle.fbl_runs.specs.Moments.{Cut}
use Rattle.fbl_pictures.specs.declared.run.crossings.Crossings.{Crossings}

-- ---- columns that are set

module _ (old new : Columns) (member : ℕ) (column : Option ℕ) (sets : (q : ℕ) → column_in new q ≡ cond (q == member) column (column_in old q)) where
  pub put_same : (q : ℕ) → q ≡ member → column_in new q ≡ column
  put_same q same = (let test : (q == member) ≡ true = grind (arith, nat_tests) in sets q ∙ ap (λ b. cond b column (column_in old q)) test)

  pub put_kept : (q : ℕ) → q ≢ member → column_in new q ≡ column_in old q
  put_kept q apart = (let test : (q == member) ≡ false = grind (arith, nat_tests) in sets q ∙ ap (λ b. cond b column (column_in old q)) test)

-- ---- one entry more

module _ (entries : List Entry) (cut : Cut) (p : ℕ) (e : Entry) (m : ℕ) (here : slice_get entries p ≡ Some e) (own : entry_member e ≡ m) where
  own_more : seen entries (p + 1) m ≡ seen entries p m + 1
  own_more = rw (add-one p) (seen-own entries p e m here own)

  other_more : (q : ℕ) → q ≢ m → seen entries (p + 1) q ≡ seen entries p q
  other_more q apart = rw add-one (seen-other entries p e q here (λ same. apart (sym same ∙ own)))

  counts_more : (counts : List ℕ) → length counts ≡ 16 → m < 16 → ((q : ℕ) → q < 16 → get_or counts q 0 ≡ seen entries p q)
      → (q : ℕ) → q < 16 → get_or (set counts m (get_or counts m 0 + 1)) q 0 ≡ seen entries (p + 1) q
  counts_more counts room below are q within = elim (cases_eq q m) [
    | inl same ↦
        let inside : m < length counts = omega (arith, room, below) in
        subst (λ (k : ℕ). get_or (set counts m (get_or counts m 0 + 1)) k 0 ≡ seen entries (p + 1) k) (sym same)
        (get_or-set_same counts m (get_or counts m 0 + 1) 0 inside ∙ ap (λ n. n + 1) (are m below) ∙ sym own_more)
    | inr apart ↦ get_or-set_other counts m q (get_or counts m 0 + 1) 0 apart ∙ are q within ∙ sym (other_more q apart)
  ]

  -- the entry has come
  pub end_come : seen entries p m < cut m → IsEnd entries cut (p + 1) (p + 1)
  end_come come = record { behind = λ place i below stands has. below; first = λ other all. omega (arith, all p (at m (seen entries p m)) (omega arith) (e, here, own, refl) come) }

  -- it has not
  pub end_kept : cut m ≤ seen entries p m → (end : ℕ) → IsEnd entries cut p end → IsEnd entries cut (p + 1) end
  end_kept beyond end is = record { behind = behind beyond end is; first = λ other all. is.first other (λ place i below. all place i (omega (arith, below))) } where
    behind : cut m ≤ seen entries p m → (end : ℕ) → IsEnd entries cut p end → IsBehind entries cut (p + 1) end
    behind beyond end is place i below stands has = elim (cases_lt place p) [
      | inl earlier ↦ is.behind place i earlier stands has
      | inr past ↦
          let same : place ≡ p = omega (arith, below, past) in
          let found : slice_get entries p ≡ Some stands.0 = ap (slice_get entries) (sym same) ∙ stands.1 in
          let one : e ≡ stands.0 = (let both : Some e ≡ Some stands.0 = sym here ∙ found in cc) in
          let member : m ≡ i.member = sym own ∙ ap entry_member one ∙ stands.2 in
          let number : seen entries p m ≡ i.number = ap (seen entries p) member ∙ ap (λ k. seen entries k i.member) (sym same) ∙ stands.3 in
          absurd (omega (arith, beyond, number, has, ap cut member))
    ]

  pub beyond_kept : (q : ℕ) (o : Option ℕ) → IsBeyond entries cut p q o → (o ≡ None → q ≡ m → seen entries p m < cut m) → IsBeyond entries cut (p + 1) q o
  beyond_kept q None is still = elim (cases_eq q m) [
    | inl same ↦ omega (arith, ap (seen entries (p + 1)) same, ap cut same, own_more, still refl same)
    | inr apart ↦ omega (arith, other_more q apart, is)
  ]
  beyond_kept q (Some place) is still = (omega (arith, is.0), is.1, is.2)

  pub beyond_new : IsBeyond entries cut p m None → cut m ≤ seen entries p m → IsBeyond entries cut (p + 1) m (Some p)
  beyond_new few beyond = (omega arith, omega (arith, few, beyond), (e, here, own))

  pub beyond_set : (old new : Columns) → cut m ≤ seen entries p m → column_in old m ≡ None → ((q : ℕ) → column_in new q ≡ cond (q == m) (Some p) (column_in old q)) → m < 16
      → ((q : ℕ) → q < 16 → IsBeyond entries cut p q (column_in old q)) → (q : ℕ) → q < 16 → IsBeyond entries cut (p + 1) q (column_in new q)
  beyond_set old new beyond none sets below are q within = elim (cases_eq q m) [
    | inl same ↦
        let few = subst (λ (o : Option ℕ). IsBeyond entries cut p m o) none (are m below) in
        let here : IsBeyond entries cut (p + 1) q (Some p) = subst (λ (k : ℕ). IsBeyond entries cut (p + 1) k (Some p)) (sym same) (beyond_new few beyond) in
        subst (λ (o : Option ℕ). IsBeyond entries cut (p + 1) q o) (sym (put_same old new m (Some p) sets q same)) here
    | inr apart ↦
        subst (λ (o : Option ℕ). IsBeyond entries cut (p + 1) q o) (sym (put_kept old new m (Some p) sets q apart)) (beyond_kept q (column_in old q) (are q within) (λ none' same. absurd (apart same)))
  ]

  pub pass_more : (old new : Crossings) → m < 16 → HasPassed entries cut p old → new.counts ≡ set old.counts m (get_or old.counts m 0 + 1) → IsEnd entries cut (p + 1) new.end
      → ((q : ℕ) → q < 16 → IsBeyond entries cut (p + 1) q (column_in new.beyond q)) → HasPassed entries cut (p + 1) new
  pass_more old new below passed is end beyond = record {
    room = ap length is ∙ length-set old.counts m (get_or old.counts m 0 + 1) ∙ passed.room;
    counts = λ q within. rw is (counts_more old.counts passed.room below passed.counts q within);
    end = end;
    beyond = beyond;
  }

-- ---- at the end

module _ (entries : List Entry) (cut : Cut) (end m : ℕ) (is : IsEnd entries cut (length entries) end) (inside : cut m ≤ length (log_of entries m)) where
  end_within : end ≤ length entries
  end_within = is.first (length entries) (λ place i below stands has. below)

  -- what has come of the member stands before the end
  all_come : cut m ≤ seen entries end m
  all_come = elim (cases_lt (seen entries end m) (cut m)) [
    | inl fewer ↦
        let e = some_entry (log_of entries m) (seen entries end m) (omega (arith, fewer, inside)) in
        let there = locate_all entries m (seen entries end m) e.0 e.1 in
        let before = is.behind there.0 (at m (seen entries end m)) there.1 (e.0, there.2, there.3, there.4) fewer in
        let later = seen-later entries there.0 end m e.0 there.2 there.3 before in
        absurd (omega (arith, later, there.4))
    | inr enough ↦ enough
  ]

  pub crossing_at_end : IsBeyond entries cut (length entries) m None → IsCrossing entries cut end m end
  crossing_at_end few = record {
    come = (let all = all_come in let most = seen_mono entries end (length entries) m end_within in omega (arith, all, most, few));
    within = omega arith;
    last = λ other below seen. below;
  }

  before_place : (place : ℕ) → place ≤ end → IsBeyond entries cut (length entries) m (Some place) → IsCrossing entries cut end m place
  before_place place long beyond = record {
    come = beyond.1;
    within = long;
    last = λ other below is_seen. elim (cases_lt place other) [
      | inl later ↦ absurd (let more = seen-later entries place other m beyond.2.0 beyond.2.1 beyond.2.2 later in omega (arith, more, beyond.1, is_seen))
      | inr fine ↦ fine
    ];
  }

  before_end : (place : ℕ) → end < place → IsBeyond entries cut (length entries) m (Some place) → IsCrossing entries cut end m end
  before_end place short beyond = record {
    come = (let all = all_come in let most = seen_mono entries end place m (omega (arith, short)) in omega (arith, all, most, beyond.1));
    within = omega arith;
    last = λ other below seen. below;
  }

  pub crossing_before : (place : ℕ) → IsBeyond entries cut (length entries) m (Some place) → IsCrossing entries cut end m (min place end)
  crossing_before place beyond = elim (cases_lt end place) [
    | inl short ↦ (let least : min place end ≡ end = omega (arith, short) in rw least (before_end place short beyond))
    | inr long ↦ (let least : min place end ≡ place = omega (arith, long) in rw least (before_place place long beyond))
  ]

-- ---- places that there are or aren't

pub is_none : (o : Option ℕ) → is_some o ≡ false → o ≡ None
is_none None h = refl
is_none (Some x) h = cc
