-- The restarts of a run that have come at a moment, and the last of them.
use Rattle.fbl_judge.proofs.Common.{ℕ, ◌≡◌, ◌<◌, ◌≤◌, ◌+◌, ◌∙◌, inl, inr, List, length, Option, Some, None, slice_get, sym, ap, subst, arith, cases_eq, cases_lt, slice_get_within}
use Rattle.fbl_judge.proofs.Common.{Entry, Restart, Cut, Logs, entry_member, log_of, IsAt, Position, StandsAt, RunParts, run_of, seen}
use Rattle.fbl_runs.specs.declared.entry.Restart as restart
use Rattle.fbl_runs.specs.Rules.{AreLawful}
use Rattle.fbl_runs.proofs.Listing.{placed, stands_at}
use Rattle.std.proofs.Common.{IfSome}
use Rattle.fbl_runs.proofs.ClockLaws.{Precedes-joined}
use Rattle.fbl_runs.proofs.LeadsLaws.{one_position}
use Rattle.fbl_judge.specs.Dependents.{HasRestart, IsLastPlace, IsLater, IsLesser}
use Rattle.fbl_judge.specs.Pasts.{AreRestartPlaces, IsRestartPlace}
use Rattle.fbl_judge.specs.Unsafe.{IsLastRestart}
use Rattle.fbl_judge.proofs.Places.{one_entry, place_of, placed_at, place_within, precedes_later}

-- the restart at the place is in its member's log
pub restart_at : (entries : List Entry) (p : ℕ) (i : Position) → IsRestartPlace entries p → StandsAt entries p i → (r : restart.Restart) × IsAt (log_of entries) i (Restart r)
restart_at entries p i is stands = (is.0, stands_at entries p i (Restart is.0) stands is.1)

-- a restart that has come is one of those listed
pub restart_place : (entries : List Entry) (i : Position) (r : restart.Restart) → IsAt (log_of entries) i (Restart r) → (p : ℕ) × StandsAt entries p i × IsRestartPlace entries p
restart_place entries i r here = (let w = place_of entries i (Restart r) here in (w.0, w.1, (r, placed_at entries w.0 i (Restart r) w.1 here)))

-- a restart of the member's is in its log
pub own_restart : (entries : List Entry) (p m : ℕ) (e : Entry) → IsRestartPlace entries p → slice_get entries p ≡ Some e → entry_member e ≡ m → HasRestart (log_of entries m)
own_restart entries p m e is here own =
    let same : e ≡ Restart is.0 = one_entry entries p e (Restart is.0) here is.1 in
    (seen entries p m, is.0, placed entries p (Restart is.0) m is.1 (ap entry_member (sym same) ∙ own))

-- of these places none is that of a restart of which P holds
abbrev pub NoneIn : List Entry → List ℕ → ℕ → (Position → Type 0) → Type 0
NoneIn entries places n P = (k place : ℕ) (r : Position) → k < n → slice_get places k ≡ Some place → StandsAt entries place r → ¬ (P r)

-- so, where they are all, none is
pub none_restarted : (entries : List Entry) (places : List ℕ) (n : ℕ) (P : Position → Type 0) → AreRestartPlaces entries places → length places ≤ n → NoneIn entries places n P
    → (i : Position) (r : restart.Restart) → IsAt (log_of entries) i (Restart r) → ¬ (P i)
none_restarted entries places n P are all none i r here is =
    let w = restart_place entries i r here in
    let k = are.all w.0 w.2 in
    none k.0 w.0 i (let within = slice_get_within places k.0 w.0 k.1 in omega (arith, within, all)) k.1 w.1 is

-- one more
pub none_more : (entries : List Entry) (places : List ℕ) (n place : ℕ) (P : Position → Type 0) → slice_get places n ≡ Some place → NoneIn entries places n P
    → ((r : Position) → StandsAt entries place r → ¬ (P r)) → NoneIn entries places (n + 1) P
none_more entries places n place P here none not k other r below at_k stands = elim (cases_eq k n) [
  | inl same ↦
      let both : Some place ≡ Some other = sym here ∙ ap (slice_get places) (sym same) ∙ at_k in
      let is : other ≡ place = (cc) in
      not r (subst (λ (p : ℕ). StandsAt entries p r) is stands)
  | inr ne ↦ none k other r (omega (arith, below, ne)) at_k stands
]

-- where no restart is the last of those that have come and did not happen before the entry, all that have come did
module _ (n : ℕ) (run : RunParts) (lawful : AreLawful n run.entries) (cut : Cut) (j : Position) (none : (r : Position) → ¬ (IsLastRestart (run_of run) cut j r)) where
  abbrev logs : Logs
  logs = log_of run.entries

  later_from : (room p : ℕ) (r : Position) → length run.entries ≤ p + room → StandsAt run.entries p r → ¬ (IsLater logs cut j r)
  later_from ℕ.zero p r past stands is = absurd (let within = place_within run.entries p r stands in omega (arith, within, past))
  later_from (ℕ.suc room) p r past stands is = none r (record {
    come = is.0;
    after = is.1;
    last = λ other come path. elim (precedes_later n run.entries lawful p (place_of run.entries other (Restart come.0) come.1).0 stands (place_of run.entries other (Restart come.0) come.1).1 path) [
      | inl same ↦ sym same
      | inr less ↦
          let there = place_of run.entries other (Restart come.0) come.1 in
          absurd (later_from room there.0 other (omega (arith, past, less)) there.1 (come, λ before. is.1 (Precedes-joined path before)))
    ];
  })

  pub none_later : (r : Position) → ¬ (IsLater logs cut j r)
  none_later r is =
      let there = place_of run.entries r (Restart is.0.0) is.0.1 in
      later_from (length run.entries) there.0 r (omega arith) there.1 is

-- of these restarts the place is that of the last one of the least member, if there is one
abbrev pub IsLastIn : RunParts → Cut → Position → List ℕ → ℕ → Option ℕ → Type 0
IsLastIn run cut j places n None = NoneIn run.entries places n (IsLastRestart (run_of run) cut j)
IsLastIn run cut j places n (Some place) =
    (l : Position) × StandsAt run.entries place l × IsLastRestart (run_of run) cut j l
    × ((k other : ℕ) (r : Position) → k < n → slice_get places k ≡ Some other → StandsAt run.entries other r → IsLastRestart (run_of run) cut j r → l.member ≤ r.member)

pub some_is : {a b : ℕ} → Some a ≡ Some b → a ≡ b
some_is same = cc

module _ (run : RunParts) (cut : Cut) (j : Position) (places : List ℕ) (n : ℕ) where
  pub last_within : (least : Option ℕ) → IsLastIn run cut j places n least → IfSome least (λ p. p < length run.entries)
  last_within None none = tt
  last_within (Some p) is = place_within run.entries p is.0 is.1

  module _ (p : ℕ) (here : slice_get places n ≡ Some p) where
    -- one that is no last one, or of no lesser member
    pub last_same : (least : Option ℕ) → ((r : Position) → StandsAt run.entries p r → IsLastRestart (run_of run) cut j r → ¬ (IsLesser run.entries r least))
        → IsLastIn run cut j places n least → IsLastIn run cut j places (n + 1) least
    last_same None not none = none_more run.entries places n p (IsLastRestart (run_of run) cut j) here none (λ r stands last. not r stands last tt)
    last_same (Some q) not is = (
      is.0,
      is.1,
      is.2,
      λ k other r below at_k stands last. elim (cases_eq k n) [
        | inl same ↦
            let own = subst (λ (p : ℕ). StandsAt run.entries p r) (some_is (sym at_k ∙ ap (slice_get places) same ∙ here)) stands in
            elim (cases_lt r.member is.0.member) [ inl less ↦ absurd (not r own last (is.0, is.1, less)) | inr fine ↦ fine ]
        | inr ne ↦ is.3 k other r (omega (arith, below, ne)) at_k stands last
      ],
    )

    -- one of a lesser member
    pub last_new : (least : Option ℕ) (r : Position) → StandsAt run.entries p r → IsLastRestart (run_of run) cut j r → IsLesser run.entries r least
        → IsLastIn run cut j places n least → IsLastIn run cut j places (n + 1) (Some p)
    last_new least r at_r last lesser is = (
      r,
      at_r,
      last,
      λ k other s below at_k stands also. elim (cases_eq k n) [
        | inl same ↦
            let own = subst (λ (p : ℕ). StandsAt run.entries p s) (some_is (sym at_k ∙ ap (slice_get places) same ∙ here)) stands in
            let one = ap (λ (i : Position). i.member) (one_position run.entries p r s at_r own) in
            omega (arith, one)
        | inr ne ↦ others least lesser is k other s (omega (arith, below, ne)) at_k stands also
      ],
    ) where
      others : (least : Option ℕ) → IsLesser run.entries r least → IsLastIn run cut j places n least
          → (k other : ℕ) (s : Position) → k < n → slice_get places k ≡ Some other → StandsAt run.entries other s → IsLastRestart (run_of run) cut j s → r.member ≤ s.member
      others None lesser none k other s below at_k stands also = absurd (none k other s below at_k stands also)
      others (Some q) lesser is k other s below at_k stands also =
          let one = ap (λ (i : Position). i.member) (one_position run.entries q lesser.0 is.0 lesser.1 is.1) in
          let less = lesser.2 in
          let least = is.3 k other s below at_k stands also in
          omega (arith, one, less, least)

  -- where they are all
  pub last_place : (least : Option ℕ) → AreRestartPlaces run.entries places → length places ≤ n → IsLastIn run cut j places n least → IsLastPlace run cut j least
  last_place None are all none = λ r last. none_restarted run.entries places n (IsLastRestart (run_of run) cut j) are all none r last.come.0 last.come.1 last
  last_place (Some p) are all is = (
    is.0,
    is.1,
    is.2,
    λ r last.
        let w = restart_place run.entries r last.come.0 last.come.1 in
        let k = are.all w.0 w.2 in
        is.3 k.0 w.0 r (let within = slice_get_within places k.0 w.0 k.1 in omega (arith, within, all)) k.1 w.1 last,
  )
