-- Which messages are taken, and how many are in flight.
use Rattle.fbl_verdicts.proofs.Common.{ℕ, ◌≡◌, ◌<◌, ◌≤◌, ◌+◌, ◌∙◌, ◌↔◌, inl, inr, zero, suc, true, false, Bool, Option, Some, None, List}
use Rattle.fbl_verdicts.proofs.Common.{get_or, length, refl, sym, ap, subst, arith, cases_eq, false≢true}
use Rattle.std.proofs.Common.{not, replicate, set, slice_get, length-set}
use Rattle.std.proofs.lemmas.Option.{slice_get-get_or}
use Rattle.fbl_trace.specs.declared.trace.Mark.{Mark}
use Rattle.fbl_trace.specs.declared.trace.Mark.TheVariants.{Send}
use Rattle.fbl_runs.specs.Clocks.{StandsAt}
use Rattle.fbl_runs.specs.Entries.{log_of}
use Rattle.fbl_runs.specs.HappenedBefore.{Carries, IsAt, Position}
use Rattle.fbl_runs.specs.Links.{IsMessageOf, IsPlaceOf}
use Rattle.fbl_runs.specs.declared.entry.Entry.{Entry}
use Rattle.fbl_runs.specs.declared.entry.Entry.TheVariants.{Event, Tell}
use Rattle.fbl_runs.proofs.LeadsLaws.{one_place_of, one_position}
use Rattle.fbl_runs.proofs.Listing.{stands_at}
use Rattle.fbl_runs.proofs.LivedLaws.{set_here}
use Rattle.fbl_judge.proofs.MomentLaws.{same_at}
use Rattle.fbl_judge.proofs.Places.{one_entry, place_of, place_within, placed_at}
use Rattle.fbl_verdicts.specs.Overviews.{AreTakenAtEnd, CountsInFlight, IsInFlight, IsInFlightFrom, IsTakenAtEnd, StandsAtEnd, TakesAtEnd}
use Rattle.fbl_verdicts.proofs.OverviewLaws.{get_elsewhere}

-- ---- which messages are taken

-- the same positions have the same place
pub same_place : (entries : List Entry) (Q R : Position → Type 0) (o : Option ℕ) → ((i : Position) → Q i ↔ R i) → IsPlaceOf entries Q o
    → IsPlaceOf entries R o
same_place entries Q R None same none = λ i r. none i ((same i).1 r)
same_place entries Q R (Some p) same is = (is.0, is.1, (same is.0).0 is.2, λ k r. is.3 k ((same k).1 r))

-- one of the first n entries takes the message, and stands at the end
abbrev pub IsTakenBelow : List Entry → ℕ → Position → Type 0
IsTakenBelow entries n i = (p : ℕ) × (j : Position) × (p < n) × StandsAt entries p j × TakesAtEnd (log_of entries) j i

-- at each place it has whether one of them does
pub record AreTakenBelow (entries : List Entry) (n : ℕ) (taken : List Bool) : Type 0 where
  pub count : length taken ≡ length entries
  pub each : (place : ℕ) (i : Position) (is_taken : Bool) → StandsAt entries place i → slice_get taken place ≡ Some is_taken
      → (is_taken ≡ true) ↔ IsTakenBelow entries n i

pub none_taken : (entries : List Entry) (taken : List Bool) → length taken ≡ length entries
    → ((place : ℕ) (is_taken : Bool) → slice_get taken place ≡ Some is_taken → is_taken ≡ false) → AreTakenBelow entries 0 taken
none_taken entries taken count none = record {
  count = count;
  each = λ place i b at_i here. (λ is. absurd (false≢true (sym (none place b here) ∙ is)), λ is. absurd (let below = is.2 in omega (arith, below)));
}

pub all_false : (n place : ℕ) (b : Bool) → slice_get (replicate n false) place ≡ Some b → b ≡ false
all_false zero place b here = absurd cc
all_false (suc n) zero b here = cc
all_false (suc n) (suc place) b here = all_false n place b here

module _ (entries : List Entry) (n : ℕ) (taken : List Bool) (are : AreTakenBelow entries n taken) where
  -- an entry that takes none, or does not stand
  pub taken_same : ((j : Position) → StandsAt entries n j → IsPlaceOf entries (TakesAtEnd (log_of entries) j) None)
      → AreTakenBelow entries (n + 1) taken
  taken_same none = record {
    count = are.count;
    each = λ place i b at_i here. (
      λ is. (let r = (are.each place i b at_i here).0 is in (r.0, r.1, (let below = r.2 in omega (arith, below)), r.3, r.4)),
      λ is. elim (cases_eq is.0 n) [
        | inl same ↦ absurd (none is.1 (subst (λ (p : ℕ). StandsAt entries p is.1) same is.3) i is.4)
        | inr ne ↦ (are.each place i b at_i here).1 (is.0, is.1, (let below = is.2 in omega (arith, below, ne)), is.3, is.4)
      ],
    );
  }

  -- one that takes that of the place
  pub taken_more : (send : ℕ) (j : Position) → StandsAt entries n j → IsPlaceOf entries (TakesAtEnd (log_of entries) j) (Some send)
      → AreTakenBelow entries (n + 1) (set taken send true)
  taken_more send j at_j is = record {
    count = length-set taken send true ∙ are.count;
    each = λ place i b at_i here. elim (cases_eq place send) [
      | inl same ↦
          let below = place_within entries send is.0 is.1 in
          let count = are.count in
          let old = slice_get-get_or taken send false (omega (arith, below, count)) in
          let new = set_here taken send (get_or taken send false) true old in
          let both : Some true ≡ Some b = sym new ∙ ap (slice_get (set taken send true)) (sym same) ∙ here in
          let true_is : true ≡ b = cc in
          let one = one_position entries send is.0 i is.1 (subst (λ (p : ℕ). StandsAt entries p i) same at_i) in
          (λ h. (n, j, omega arith, at_j, subst (TakesAtEnd (log_of entries) j) one is.2), λ h. sym true_is)
      | inr ne ↦
          let before = are.each place i b at_i (sym (get_elsewhere taken send place true ne) ∙ here) in (
            λ h. (let r = before.0 h in (r.0, r.1, (let below = r.2 in omega (arith, below)), r.3, r.4)),
            λ h. elim (cases_eq h.0 n) [
              | inl last ↦ absurd (
                  let own = one_position entries n h.1 j (subst (λ (p : ℕ). StandsAt entries p h.1) last h.3) at_j in
                  elim (is.3 i (subst (λ (j : Position). TakesAtEnd (log_of entries) j i) own h.4)) [
                    | inl same ↦ ne (one_place_of entries place send is.0 (subst (λ (i : Position). StandsAt entries place i) same at_i) is.1)
                    | inr none ↦ none
                  ])
              | inr other ↦ before.1 (h.0, h.1, (let below = h.2 in omega (arith, below, other)), h.3, h.4)
            ],
          )
    ];
  }

  -- where all entries are looked at
  pub taken_all : length entries ≤ n → AreTakenAtEnd entries taken
  taken_all all = record {
    count = are.count;
    each = λ place i s b at_i event here. (
      λ h.
          let r = (are.each place i b at_i here).0 h in
          (r.1, carried i r.1 s (stands_at entries place i (Event s) at_i event) r.4.0, r.4.1),
      λ h.
          let j = place_of entries h.0 h.1.2 h.1.4 in
          let below = place_within entries j.0 h.0 j.1 in
          (are.each place i b at_i here).1 (j.0, h.0, omega (arith, below, all), j.1, (inl h.1, h.2)),
    );
  } where
    carried : (i j : Position) (s : Mark) → IsAt (log_of entries) i (Event s) → IsMessageOf (log_of entries) j i → Carries (log_of entries) i j
    carried i j s at_i (inl carries) = carries
    carried i j s at_i (inr tells) =
        let same : Event s ≡ Tell tells.0 = same_at (log_of entries) i (Event s) (Tell tells.0) at_i tells.1 in
        absurd cc

-- ---- how many are in flight

-- the entry is a send
abbrev pub IsSend : Entry → Type 0
IsSend e = (from : ℕ) × (ssn : ℕ) × (to : ℕ) × (e ≡ Event (Send from ssn to))

module _ (entries : List Entry) (place : ℕ) (i : Position) (at_i : StandsAt entries place i) where
  -- what is in flight is a send
  pub in_flight_sent : (e : Entry) → slice_get entries place ≡ Some e → IsInFlight (log_of entries) i → IsSend e
  in_flight_sent e here flight =
      let send = flight.send in
      let mark = Send send.0 send.1 send.2 in
      (send.0, send.1, send.2, one_entry entries place e (Event mark) here (placed_at entries place i (Event mark) at_i send.3))

  -- a send that stands is in flight unless its message is taken
  pub in_flight_untaken : (taken : List Bool) (e : Entry) → AreTakenAtEnd entries taken → slice_get entries place ≡ Some e → IsSend e
      → StandsAtEnd (log_of entries) i → (not (get_or taken place false) ≡ true) ↔ IsInFlight (log_of entries) i
  in_flight_untaken taken e are here send stands = (
    λ free. record {
      send = (send.0, send.1, send.2, stands_at entries place i (Event mark) at_i event);
      stands = stands;
      untaken = λ is. false≢true (sym (ap not (known.1 is)) ∙ free);
    },
    λ flight. elim (get_or taken place false) as (λ b. ((b ≡ true) → IsTakenAtEnd (log_of entries) i) → not b ≡ true) [
      | true ↦ λ known. absurd (flight.untaken (known refl))
      | false ↦ λ known. refl
    ] known.0,
  ) where
    mark : Mark
    mark = Send send.0 send.1 send.2

    event : slice_get entries place ≡ Some (Event mark)
    event = here ∙ ap Some send.3

    known : (get_or taken place false ≡ true) ↔ IsTakenAtEnd (log_of entries) i
    known = (let below = place_within entries place i at_i in
        let count = are.count in
        are.each place i mark (get_or taken place false) at_i event (slice_get-get_or taken place false (omega (arith, below, count))))

module _ (entries : List Entry) (n count : ℕ) (before : CountsInFlight entries n count) where
  next : suc n ≡ n + 1
  next = omega arith

  pub in_flight_more : IsInFlightFrom entries n → CountsInFlight entries (n + 1) (count + 1)
  in_flight_more is = subst (λ (m : ℕ). CountsInFlight entries m (count + 1)) next (inl (is, (count, before, refl)))

  pub in_flight_same : ¬ (IsInFlightFrom entries n) → CountsInFlight entries (n + 1) count
  in_flight_same not = subst (λ (m : ℕ). CountsInFlight entries m count) next (inr (not, before))
