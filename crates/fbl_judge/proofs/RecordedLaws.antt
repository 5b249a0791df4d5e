-- Walks over the holds and stores of a determinant, and what they record.
use Rattle.fbl_judge.proofs.Common.{ℕ, true, ◌≡◌, ◌-◌, ◌<◌, ◌≤◌, ◌+◌, ◌⊎◌, ◌↔◌, ◌∙◌, inl, inr, List, length, Option, Some, None, slice_get, refl, sym, ap, subst, arith, cases_eq, cases_lt, slice_get_within}
use Rattle.fbl_judge.proofs.Common.{Determinant, Entry, Hold, Store, recorded_in, log_of, Position, at, Cut, HasCome, HoldsAt, IsStoredAt, Members, Stands, StandsAt, seen}
use Rattle.std.specs.FinSet as set
use Rattle.fbl_trace.specs.MemberSets.{contains-insert_other, contains-insert_same}
use Rattle.fbl_runs.specs.Records.{IsNextRecord, IsRecordAt}
use Rattle.fbl_runs.proofs.LeadsLaws.{here_stands}
use Rattle.fbl_runs.proofs.Listing.{locate_all, stands_at}
use Rattle.fbl_judge.specs.Recorded.{HoldsBy, StoresBy}
use Rattle.fbl_judge.proofs.Places.{one_entry}

-- ---- a walk

-- the next one of them that is not passed, if there is one, is behind the place
abbrev pub IsPassed : Option ℕ → ℕ → Type 0
IsPassed None place = Unit {0}
IsPassed (Some next) place = place < next

-- and is one of them
abbrev pub IsReached : List Entry → Determinant → Option ℕ → Type 0
IsReached entries d None = Unit {0}
IsReached entries d (Some next) = IsRecordAt entries d next

-- Q holds of one of those that are passed
abbrev pub IsOfPassed : List Entry → Determinant → (ℕ → Type 0) → Option ℕ → Type 0
IsOfPassed entries d Q next = (place : ℕ) × IsPassed next place × IsRecordAt entries d place × Q place

-- how many entries are left from the next one on
pub left : List Entry → Option ℕ → ℕ
left entries None = 0
left entries (Some next) = length entries - next

module _ (entries : List Entry) (d : Determinant) where
  pub is_reached : (p : ℕ) (o : Option ℕ) → IsNextRecord entries d p o → IsReached entries d o
  is_reached p None next = tt
  is_reached p (Some place) next = next.1

  pub record_within : (place : ℕ) → IsRecordAt entries d place → place < length entries
  record_within place here = slice_get_within entries place here.0 here.1

  pub fewer_left : (place : ℕ) (o : Option ℕ) → IsRecordAt entries d place → IsNextRecord entries d (place + 1) o → left entries o < left entries (Some place)
  unfolding left
  fewer_left place None here next = (let within = record_within place here in omega (arith, within))
  fewer_left place (Some later) here next = (let within = record_within place here in let past = next.0 in omega (arith, within, past))

  -- with one passed more, those are passed that were before, and it
  passed_more : (here : ℕ) (o : Option ℕ) → IsNextRecord entries d (here + 1) o → (place : ℕ) → IsPassed o place → IsRecordAt entries d place → (place < here) ⊎ (place ≡ here)
  passed_more here o next place passed record' = elim (cases_lt place here) [
    | inl below ↦ inl below
    | inr past ↦ elim (cases_eq place here) [ inl same ↦ inr same | inr ne ↦ absurd (behind o next passed (omega (arith, past, ne))) ]
  ] where
    behind : (o : Option ℕ) → IsNextRecord entries d (here + 1) o → IsPassed o place → here + 1 ≤ place → ⊥
    behind None none passed past = none place past record'
    behind (Some later) next passed past = next.2 place past passed record'

  still_passed : (here : ℕ) (o : Option ℕ) → IsNextRecord entries d (here + 1) o → (place : ℕ) → place ≤ here → IsPassed o place
  still_passed here None next place within = tt
  still_passed here (Some later) next place within = (let past = next.0 in omega (arith, past, within))

  module _ (Q : ℕ → Type 0) where
    -- before the first none is passed
    pub none_passed : (o : Option ℕ) → IsNextRecord entries d 0 o → ¬ (IsOfPassed entries d Q o)
    none_passed None next of = next of.0 (omega arith) of.2
    none_passed (Some first) next of = next.2 of.0 (omega arith) of.1 of.2

    -- with one passed more, it holds of one of those before, or of this one
    pub one_more : {Old New : Type 0} (here : ℕ) (o : Option ℕ) → IsRecordAt entries d here → IsNextRecord entries d (here + 1) o → Old ↔ IsOfPassed entries d Q (Some here) → New ↔ Old ⊎ Q here
        → New ↔ IsOfPassed entries d Q o
    one_more here o is next old new = (
      λ found. elim (new.0 found) [
        | inl before ↦ (let of = old.0 before in (of.0, still_passed here o next of.0 (let below = of.1 in omega (arith, below)), of.2, of.3))
        | inr own ↦ (here, still_passed here o next here (omega arith), is, own)
      ],
      λ of. new.1 (elim (passed_more here o next of.0 of.1 of.2) [
        | inl below ↦ inl (old.1 (of.0, below, of.2, of.3))
        | inr same ↦ inr (subst Q same of.3)
      ]),
    )

    -- at the end all are passed
    pub all_passed : (o : Option ℕ) → ((p : ℕ) → ¬ (o ≡ Some p)) → (place : ℕ) → IsRecordAt entries d place → Q place → IsOfPassed entries d Q o
    all_passed None none place is own = (place, tt, is, own)
    all_passed (Some next) none place is own = absurd (none next refl)

-- ---- what they record

-- the determinant of a hold or a store at a place is that of which it is
one_recorded : (entries : List Entry) (d x : Determinant) (place : ℕ) (e : Entry) → IsRecordAt entries d place → slice_get entries place ≡ Some e → recorded_in e ≡ Some x → x ≡ d
one_recorded entries d x place e is here records =
    let same : e ≡ is.0 = one_entry entries place e is.0 here is.1 in
    (let some : Some x ≡ Some d = sym records ∙ ap recorded_in same ∙ is.2 in cc)

module _ (entries : List Entry) (cut : Cut) (d : Determinant) where
  pub holds_by : (q : ℕ) → HoldsAt (log_of entries) cut d q → (place : ℕ) × IsRecordAt entries d place × HoldsBy entries cut q place
  holds_by q holds =
      let w = locate_all entries q holds.0 (Hold q d) holds.1 in
      (w.0, (Hold q d, w.2, refl), (d, holds.0, w.2, (Hold q d, w.2, w.3, w.4), holds.2))

  pub by_hold : (q place : ℕ) → IsRecordAt entries d place → HoldsBy entries cut q place → HoldsAt (log_of entries) cut d q
  by_hold q place is by =
      let same = one_recorded entries d by.0 place (Hold q by.0) is by.2 refl in
      (by.1, stands_at entries place (at q by.1) (Hold q by.0) by.3 by.2 ∙ ap (λ d. Some (Hold q d)) same, by.4)

  pub stored_by : IsStoredAt (log_of entries) cut d → (place : ℕ) × IsRecordAt entries d place × StoresBy entries cut place
  stored_by stored =
      let w = locate_all entries stored.0 stored.1 (Store stored.0 d) stored.2 in
      (w.0, (Store stored.0 d, w.2, refl), (d, at stored.0 stored.1, w.2, (Store stored.0 d, w.2, w.3, w.4), stored.3))

  pub by_store : (place : ℕ) → IsRecordAt entries d place → StoresBy entries cut place → IsStoredAt (log_of entries) cut d
  by_store place is by =
      let i = by.1 in
      let same = one_recorded entries d by.0 place (Store i.member by.0) is by.2 refl in
      (i.member, i.number, stands_at entries place i (Store i.member by.0) by.3 by.2 ∙ ap (λ d. Some (Store i.member d)) same, by.4)

-- ---- what one of them adds

-- where it adds nothing, what was found is found
pub none_added : {A B : Type 0} → ¬ B → A ↔ A ⊎ B
none_added none = (inl, elim [ inl before ↦ before | inr own ↦ absurd (none own) ])

module _ (entries : List Entry) (cut : Cut) (place : ℕ) (e : Entry) (here : slice_get entries place ≡ Some e) where
  -- where another entry stands there, it is not so
  pub no_hold : (q : ℕ) → ((d : Determinant) → ¬ (e ≡ Hold q d)) → ¬ (HoldsBy entries cut q place)
  no_hold q other by = other by.0 (one_entry entries place e (Hold q by.0) here by.2)

  pub no_store : ((q : ℕ) (d : Determinant) → ¬ (e ≡ Store q d)) → ¬ (StoresBy entries cut place)
  no_store other by = other by.1.member by.0 (one_entry entries place e (Store by.1.member by.0) here by.2)

  -- a hold that stands adds its member
  pub hold_added : (holder : ℕ) (d : Determinant) → e ≡ Hold holder d → ((i : Position) → StandsAt entries place i → Stands (log_of entries) cut i)
      → (old new : Members) → new ≡ set.insert old holder → (q : ℕ) → (set.contains new q ≡ true) ↔ (set.contains old q ≡ true) ⊎ HoldsBy entries cut q place
  hold_added holder d is stands old new added q = elim (cases_eq q holder) [
    | inl own ↦
        let i = at holder (seen entries place holder) in
        let there = here_stands entries place (Hold holder d) (here ∙ ap Some is) in
        let by : HoldsBy entries cut holder place = (d, i.number, here ∙ ap Some is, there, stands i there) in
        let has : set.contains new holder ≡ true = ap (λ (s : Members). set.contains s holder) added ∙ contains-insert_same old holder in
        (λ h. inr (subst (λ (q : ℕ). HoldsBy entries cut q place) (sym own) by), λ h. subst (λ (q : ℕ). set.contains new q ≡ true) (sym own) has)
    | inr ne ↦
        let same : set.contains new q ≡ set.contains old q = ap (λ (s : Members). set.contains s q) added ∙ contains-insert_other old holder q ne in
        let none = no_hold q (λ x other. ne (let one : Hold q x ≡ Hold holder d = sym other ∙ is in cc)) in
        (λ h. inl (sym same ∙ h), elim [ inl before ↦ same ∙ before | inr by ↦ absurd (none by) ])
  ]

  -- a store that has come is one
  pub store_come : (q : ℕ) (d : Determinant) → e ≡ Store q d → ((i : Position) → StandsAt entries place i → HasCome cut i) → StoresBy entries cut place
  store_come q d is come =
      let i = at q (seen entries place q) in
      let there = here_stands entries place (Store q d) (here ∙ ap Some is) in
      (d, i, here ∙ ap Some is, there, come i there)
