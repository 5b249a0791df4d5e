-- What the plan strikes may be struck.
use Rattle.fbl_turns.proofs.Common.{◌≡◌, ℕ, inr, List, Some, None, refl, sym, subst, arith, cases_lt, ⊎_elim, Members, Strike, GroupRecord, IsPlan, struck_at, Settings, strike_refusal, is_allowed, MayBeStruck}
use Rattle.std.specs.FinSet as set
use Rattle.fbl_turns.proofs.Keeping.{none_joined, planned}

module _ {N : Type 0} where
  may-if : (config : Settings N) (s : Members) → ¬ (¬ (MayBeStruck config s)) → MayBeStruck config s
  may-if config s not_not = (
    ⊎_elim (λ less. absurd (not_not (λ m. omega (arith, m.0, less)))) (λ more. more) (cases_lt (set.len s) 1),
    ⊎_elim (λ less. absurd (not_not (λ m. omega (arith, m.1, less)))) (λ more. more) (cases_lt config.f (set.len s)),
    λ q has. ⊎_elim (λ less. less) (λ more. absurd (not_not (λ m. omega (arith, m.2 q has, more)))) (cases_lt q config.members),
  )

module _ {S N : Type 0} where
  -- a strike of the plan is not refused where nobody is down
  pub planned_may : (plan : List Strike) (config : Settings N) (r : GroupRecord S N) (n : ℕ) (s : Members) → IsPlan plan config → r.config ≡ config
      → r.down ≡ set.empty → struck_at plan n ≡ Some s → strike_refusal r s ≡ None
  planned_may plan config r n s fits same nobody at =
      let place = planned plan n s at in
      let may : MayBeStruck config s = may-if config s (λ not. fits place.0 place.1 (inr (inr (λ m. not (subst (λ (t : Members). MayBeStruck config t) place.2 m))))) in
      let may' : MayBeStruck r.config s = rw same may in
      let both : s ≡ set.union r.down s = rw nobody (sym (none_joined s)) in
      is_allowed s {r = r} {now = r} refl {n = r.config.members} refl may'.2 (λ none. omega (arith, may'.0, none)) both may'.1
