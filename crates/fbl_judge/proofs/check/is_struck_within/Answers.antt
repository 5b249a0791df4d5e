use Rattle.fbl_judge.proofs.Common.{Bool, Members, Option, ap, arith, false, false≢true, nat_tests, refl, subst, sym, true, ℕ, ◌≡◌, ◌↔◌, ◌∙◌}
use Rattle.std.specs.Cmp.{nat_cmp_total}
use Rattle.std.specs.FinSet as set
use Rattle.fbl_judge.specs.Candidates.{IsStruckWithin}
use Rattle.fbl_judge.specs.declared.check.Candidate.{Candidate}
use Rattle.fbl_judge.proofs.Audits.{no_one, some_one}
use Rattle.fbl_judge.proofs.check.is_struck_within.Goals as goal

pub returns-in-Some : goal.returns-in-Some
returns-in-Some c = subst (λ (o : Option Candidate). (c.is_empty.result ≡ true) ↔ IsStruckWithin c.args.least o) (sym c.in-Some.is) (
  λ empty r has. at_least r has (set.contains c.args.least r) refl (no_one c.without.result c.is_empty.result c.is_empty.ensures empty r),
  λ within. at_test c.is_empty.result refl within,
) where
  strike : Members
  strike = c.in-Some.candidate.strike

  -- it is struck, and none of those
  out : (r : ℕ) → (set.contains c.without.result r ≡ true) ↔ (set.contains strike r ≡ true) × (set.contains c.args.least r ≡ false)
  out r =
      let left = set.contains-difference nat_cmp_total strike c.args.least r in
      let is = ap (λ (s : Members). set.contains s r) c.without.ensures in
      grind (arith, nat_tests, left, is)

  at_least : (r : ℕ) → set.contains strike r ≡ true → (b : Bool) → set.contains c.args.least r ≡ b → ¬ (set.contains c.without.result r ≡ true) → set.contains c.args.least r ≡ true
  at_least r has true is none = is
  at_least r has false is none = absurd (none ((out r).1 (has, is)))

  at_test : (b : Bool) → c.is_empty.result ≡ b → ((r : ℕ) → set.contains strike r ≡ true → set.contains c.args.least r ≡ true) → c.is_empty.result ≡ true
  at_test true is within = is
  at_test false is within =
      let one = some_one c.without.result c.is_empty.result c.is_empty.ensures is in
      let left = (out one.0).0 one.1 in
      absurd (false≢true (sym left.1 ∙ within one.0 left.0))

pub returns-in-None : goal.returns-in-None
returns-in-None c = subst (λ (o : Option Candidate). (false ≡ true) ↔ IsStruckWithin c.args.least o) (sym c.in-None.is) (λ no. absurd (false≢true no), λ no'. absurd no')
