-- What stands, by the restart that undoes it.
use Rattle.fbl_judge.proofs.Common.{ℕ, zero, suc, ◌≡◌, ◌<◌, ◌≤◌, ◌+◌, ◌⊎◌, ◌↔◌, inl, inr, List, [], ◌∷◌, None, Some, slice_get, take, refl, ap, subst, arith, cases_eq, cases_lt, Entry, log_of, Position, at, Cut, Stands, StandsBehind, standing}
use Rattle.fbl_runs.specs.Clocks.{StandsAt}
use Rattle.fbl_runs.specs.Links.{IsPlaceOf}
use Rattle.fbl_runs.specs.Lives.{IsUndoneBy}
use Rattle.fbl_runs.proofs.LifeLaws.{IsIn, StandsBehind-next, contains_from_in, in_from_contains}
use Rattle.fbl_judge.proofs.MomentLaws.{last_stands, stands_less}

in_or : (xs : List ℕ) (k : ℕ) → IsIn xs k ⊎ ¬ (IsIn xs k)
in_or [] k = inr (λ h. (let none : None ≡ Some k = h.1 in cc))
in_or (x ∷ xs) k = elim (cases_eq x k) [
  | inl same ↦ inl (zero, ap Some same)
  | inr ne ↦ elim (in_or xs k) [
    | inl h ↦ inl (suc h.0, h.1)
    | inr none ↦ inr (λ h. at_place h.0 h.1 ne none)
  ]
] where
  at_place : (i : ℕ) → slice_get (x ∷ xs) i ≡ Some k → ¬ (x ≡ k) → ¬ (IsIn xs k) → ⊥
  at_place zero here ne none = ne (cc)
  at_place (suc i) here ne none = none (i, here)

-- what no restart undoes stands from then on
pub never_undone : (log : List Entry) (k : ℕ) → ((number : ℕ) → ¬ (IsUndoneBy log k number)) → (x : ℕ) → k < x → StandsBehind log k x
never_undone log k none zero below = absurd (omega (arith, below))
never_undone log k none (suc x) below = elim (cases_eq k x) [
  | inl same ↦ subst (λ (x : ℕ). StandsBehind log k (suc x)) same (last_stands log k)
  | inr ne ↦
      let stood = never_undone log k none x (omega (arith, below, ne)) in
      let same : x + 1 ≡ suc x = omega arith in
      subst (StandsBehind log k) same (StandsBehind-next log k x stood (λ r here. elim (in_or (standing (take (x + 1) log)) k) [
        | inl has ↦ contains_from_in (standing (take (x + 1) log)) k has
        | inr out ↦ absurd (none x (record { stood = stood; restart = (r, here); undone = λ has. out (in_from_contains (standing (take (x + 1) log)) k has) }))
      ]))
]

abbrev pub IsUndoerOf : List Entry → Position → Position → Type 0
IsUndoerOf entries j i = (i.member ≡ j.member) × IsUndoneBy (log_of entries j.member) j.number i.number

module _ (entries : List Entry) (j : Position) (cut : Cut) where
  -- where none undoes it, it stands once it has come
  pub stands_never : IsPlaceOf entries (IsUndoerOf entries j) None → (j.number < cut j.member) ↔ Stands (log_of entries) cut j
  stands_never none = (
    λ come. never_undone (log_of entries j.member) j.number (λ number undone. none (at j.member number) (refl, undone)) (cut j.member) come,
    λ stands. stands.0,
  )

  -- and else until that has come
  pub stands_until : (place number : ℕ) → IsPlaceOf entries (IsUndoerOf entries j) (Some place) → ((i : Position) → StandsAt entries place i → number ≡ i.number)
      → ((j.number < cut j.member) × (cut j.member ≤ number)) ↔ Stands (log_of entries) cut j
  stands_until place number is named =
      let i = is.0 in
      let same = named i is.1 in
      let undone = is.2.1 in (
        λ h. stands_less (log_of entries j.member) j.number (cut j.member) i.number h.0 (let x = h.1 in omega (arith, x, same)) undone.stood,
        λ stands. (
          stands.0,
          elim (cases_lt i.number (cut j.member)) [
            | inr fine ↦ omega (arith, fine, same)
            | inl come ↦ absurd (undone.undone (stands.1 i.number undone.restart.0 undone.stood.0 come undone.restart.1))
          ],
        ),
      )
