-- How a path from a receipt goes back from an entry that depends on it.
use Rattle.fbl_judge.proofs.Common.{ℕ, ◌≡◌, ◌<◌, ◌+◌, inl, inr, List, [], ◌∷◌, ◌++◌, Option, Some, None, slice_get, refl, sym, ap, subst, ◌∙◌, arith, cases_lt, cases_eq, DependsAt, Cut}
use Rattle.fbl_judge.proofs.Common.{Mark, Entry, Told, Carries, Tells, StoodBefore, StandsBehind, log_of, mark_in, Position, Precedes, Dependence, at, StandsAt, RunParts, AreEntries}
use Rattle.std.proofs.Common.{MatchOption, reverse}
use Rattle.std.proofs.lemmas.List.{reverse-append}
use Rattle.fbl_runs.specs.Links.{IsPlaceOf}
use Rattle.fbl_runs.specs.Rules.{AreLawful}
use Rattle.fbl_runs.proofs.Listing.{locate_all, stands_at}
use Rattle.fbl_runs.proofs.ClockLaws.{last_step, last_there}
use Rattle.fbl_judge.specs.Dependents.{IsDependentSend}
use Rattle.fbl_judge.specs.Paths.{ArePathsFrom, IsDependentOn, IsDependentPlace, IsPath, IsPathTo, IsPlaceBefore, PlaceLeads, path_step}
use Rattle.fbl_judge.specs.declared.paths.OrphanPath.{OrphanPath}
use Rattle.fbl_runs.proofs.LeadsLaws.{leads_before}
use Rattle.fbl_judge.proofs.Places.{one_entry, one_place, placed_at}

-- an entry that a message comes in with is an event
pub carries_event : (entries : List Entry) (p : ℕ) (e : Entry) (k j : Position) → slice_get entries p ≡ Some e → StandsAt entries p j → (carries : Carries (log_of entries) k j) → mark_in e ≡ Some carries.1
carries_event entries p e k j at_p stands carries = ap mark_in (one_entry entries p e carries.2 at_p (placed_at entries p j carries.2 stands carries.4)) ∙ carries.5

-- and one that is told something is none
pub tells_event : (entries : List Entry) (p : ℕ) (e : Entry) (m : Mark) (k j : Position) → slice_get entries p ≡ Some e → StandsAt entries p j → Tells (log_of entries) k j → mark_in e ≡ Some m → ⊥
tells_event entries p e m k j at_p stands tells is =
    let same = ap mark_in (one_entry entries p e (Told tells.0) at_p (placed_at entries p j (Told tells.0) stands tells.2)) in
    cc

-- where there is no place, there is none
pub none_message : (entries : List Entry) (Q : Position → Type 0) (o : Option ℕ) → ((p : ℕ) → ¬ (o ≡ Some p)) → IsPlaceOf entries Q o → (k : Position) → ¬ (Q k)
none_message entries Q None none is = is
none_message entries Q (Some p) none is = absurd (none p refl)

-- one more step back
pub path_back : (entries : List Entry) (p k q : ℕ) (path more : List ℕ) → PlaceLeads entries p k → IsPath entries k q (reverse path) → more ≡ path ++ p ∷ [] → IsPath entries p q (reverse more)
path_back entries p k q path more leads is same = rw (same, reverse-append path (p ∷ [])) (path_step leads is)

module _ (run : RunParts) (n : ℕ) (lawful : AreLawful n run.entries) (receipt place : ℕ) (depends : IsDependentOn run.entries receipt place) where
  -- by its message
  pub by_send : (send : ℕ) → IsDependentSend run.entries depends.0 depends.1 (Some send) → IsPlaceBefore run.entries receipt place (Some send)
  by_send send is =
      let j = depends.1 in (
        leads_before n run.entries lawful Dependence send place is.0 j is.1 depends.3 (inr is.2),
        (is.0, j, is.1, depends.3, inr is.2),
        (depends.0, is.0, depends.2, is.1, is.3),
      )

  -- by what stood when it came
  pub by_stood : ¬ (place ≡ receipt) → IsDependentSend run.entries depends.0 depends.1 None → (cut : Cut) (m : ℕ) → m ≡ depends.1.member → cut m ≡ depends.1.number + 1
      → (o : Option ℕ) → MatchOption o (¬ (DependsAt (log_of run.entries) cut depends.0 m)) (IsDependentPlace run depends.0 cut m) → IsPlaceBefore run.entries receipt place o
  by_stood other no_send cut m own count o found = elim (last_step depends.4) [
    | inl same ↦ absurd (other (one_place run.entries place receipt depends.1 depends.0 depends.3 depends.2 (sym same)))
    | inr (k, path, inr carries) ↦ absurd (no_send k carries path)
    | inr (k, path, inl stood) ↦ by_first k path stood o found
  ] where
    by_first : (k : Position) → Precedes Dependence (log_of run.entries) depends.0 k → StoodBefore (log_of run.entries) k depends.1
        → (o : Option ℕ) → MatchOption o (¬ (DependsAt (log_of run.entries) cut depends.0 m)) (IsDependentPlace run depends.0 cut m) → IsPlaceBefore run.entries receipt place o
    by_first k path stood o found = by_place o found where
      member : k.member ≡ m
      member = stood.0.4 ∙ sym own

      own_path : Precedes Dependence (log_of run.entries) depends.0 (at m k.number)
      own_path = subst (λ (q : ℕ). Precedes Dependence (log_of run.entries) depends.0 (at q k.number)) member path

      own_stands : StandsBehind (log_of run.entries m) k.number (cut m)
      own_stands = subst (λ (x : ℕ). StandsBehind (log_of run.entries m) k.number x) (sym count) (subst (λ (q : ℕ). StandsBehind (log_of run.entries q) k.number (depends.1.number + 1)) member stood.1)

      by_place : (o : Option ℕ) → MatchOption o (¬ (DependsAt (log_of run.entries) cut depends.0 m)) (IsDependentPlace run depends.0 cut m) → IsPlaceBefore run.entries receipt place o
      by_place None none = absurd (none (k.number, own_path, own_stands))
      by_place (Some f) is =
          let j = depends.1 in
          let same : is.0.member ≡ j.member = is.2 ∙ own in
          let early : is.0.number < j.number = elim (cases_lt k.number is.0.number) [
            | inl less ↦ absurd (is.3.first k.number less (subst (λ (q : ℕ). Precedes Dependence (log_of run.entries) depends.0 (at q k.number)) (sym is.2) own_path)
                (subst (λ (q : ℕ). StandsBehind (log_of run.entries q) k.number (cut q)) (sym is.2) own_stands))
            | inr past ↦ (let less = stood.0.5 in omega (arith, past, less))
          ] in
          let reach : cut is.0.member ≡ j.number + 1 = ap cut is.2 ∙ count in
          let standing : StandsBehind (log_of run.entries is.0.member) is.0.number (j.number + 1) = subst (λ (x : ℕ). StandsBehind (log_of run.entries is.0.member) is.0.number x) reach is.3.stands in
          let a = stands_at run.entries f is.0 is.1.0 is.1 is.1.1 in
          let b = stands_at run.entries place j depends.3.0 depends.3 depends.3.1 in
          let leads : StoodBefore (log_of run.entries) is.0 j = ((is.1.0, depends.3.0, a, b, same, early), standing) in (
            leads_before n run.entries lawful Dependence f place is.0 j is.1 depends.3 (inl leads),
            (is.0, j, is.1, depends.3, inl leads),
            (depends.0, is.0, depends.2, is.1, is.3.depends),
          )

-- paths to the members of which one property holds are paths to those of which the same holds in other words
pub same_paths : (run : RunParts) (i : Position) (cut : Cut) (P Q : ℕ → Type 0) → ((q : ℕ) → (P q → Q q) × (Q q → P q)) → (n : ℕ) (paths : List OrphanPath) → ArePathsFrom run i cut P n paths → ArePathsFrom run i cut Q n paths
same_paths run i cut P Q same n [] none = λ q past is. none q past ((same q).1 is)
same_paths run i cut P Q same n (p ∷ paths) are =
    (are.0, (same p.orphan).0 are.1, are.2, λ q past below is. are.3 q past below ((same q).1 is), same_paths run i cut P Q same (p.orphan + 1) paths are.4)

-- one path more behind the others
pub paths_more : (run : RunParts) (i : Position) (cut : Cut) (P : ℕ → Type 0) (q : ℕ) (path : OrphanPath) → (rest : List OrphanPath)
    → path.orphan ≡ q → P q → IsPathTo run i cut q path.places.items → ArePathsFrom run i cut P (q + 1) rest → ArePathsFrom run i cut P q (path ∷ rest)
paths_more run i cut P q path rest own is leads are = (
  omega (arith, own),
  subst P (sym own) is,
  subst (λ (q : ℕ). IsPathTo run i cut q path.places.items) (sym own) leads,
  λ r past below. absurd (omega (arith, past, below, own)),
  subst (λ (q : ℕ). ArePathsFrom run i cut P (q + 1) rest) (sym own) are,
)

-- no path more
pub paths_skip : (run : RunParts) (i : Position) (cut : Cut) (P : ℕ → Type 0) (q : ℕ) (rest : List OrphanPath) → ¬ (P q) → ArePathsFrom run i cut P (q + 1) rest → ArePathsFrom run i cut P q rest
paths_skip run i cut P q [] not are = λ r past. elim (cases_eq r q) [ inl same ↦ subst (λ (r : ℕ). ¬ (P r)) (sym same) not | inr ne ↦ are r (omega (arith, past, ne)) ]
paths_skip run i cut P q (p ∷ paths) not are = (
  (let a = are.0 in omega (arith, a)),
  are.1,
  are.2,
  λ r past below. elim (cases_eq r q) [ inl same ↦ subst (λ (r : ℕ). ¬ (P r)) (sym same) not | inr ne ↦ are.3 r (omega (arith, past, ne)) below ],
  are.4,
)

-- who depends on something is of the group
pub of_group : (n : ℕ) (entries : List Entry) → AreEntries n entries → (i : Position) (cut : Cut) (q : ℕ) → DependsAt (log_of entries) cut i q → q < n
of_group n entries are i cut q depends =
    let there = last_there depends.1 in
    let w = locate_all entries q depends.0 there.0 there.1 in
    (rw w.3 at (are.members w.0 there.0 w.2))
