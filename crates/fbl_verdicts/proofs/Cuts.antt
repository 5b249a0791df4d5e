-- Cuts that have so many of a member's first entries more.
use Rattle.fbl_verdicts.proofs.Common.{ℕ, false, cond, ◌≡◌, ◌==◌, ◌∙◌, ap, arith}
use Rattle.std.proofs.Common.{max}
use Rattle.fbl_trace.proofs.Common.{nat_tests, ◌≢◌}
use Rattle.fbl_trace.proofs.RulesLaws.{eqb-self}
use Rattle.fbl_runs.specs.Moments.{Cut}

module _ (old new : Cut) (member count : ℕ) (is : (q : ℕ) → new q ≡ max (old q) (cond (q == member) count 0)) where
  pub reached_own : new member ≡ max (old member) count
  reached_own = is member ∙ ap (λ b. max (old member) (cond b count 0)) (eqb-self member)

  pub reached_other : (q : ℕ) → q ≢ member → new q ≡ old q
  reached_other q ne =
      let test : (q == member) ≡ false = grind (arith, nat_tests, ne) in
      let same : new q ≡ max (old q) 0 = is q ∙ ap (λ b. max (old q) (cond b count 0)) test in
      omega (arith, same)
