use Rattle.fbl_judge.proofs.Common.{arith, ℕ, ◌∙◌, inl, inr, cases_eq, sym, subst, false≢true, cut_of, log_of, at}
use Rattle.fbl_judge.specs.Dependents.{IsDependent}
use Rattle.fbl_judge.proofs.named.first_listed.Goals as goal

pub returns-then-is_dependent : goal.returns-then-is_dependent
returns-then-is_dependent c i stands = (c.loop-number-test.true, (c.is_dependent.ensures i stands).0 c.if-is_dependent.true, λ k less. c.loop-number.invariant i k stands less)

pub loop-number-preserved : goal.loop-number-preserved
loop-number-preserved c i k stands less is = elim (cases_eq k c.loop-number.number) [
  | inl same ↦ false≢true (sym c.if-is_dependent.false ∙ (c.is_dependent.ensures i stands).1 (subst (λ (k : ℕ). IsDependent (log_of c.args.pasts.now.entries) i (cut_of c.args.moment.now) (at c.args.member k)) same is))
  | inr ne ↦ c.loop-number.invariant i k stands (omega (arith, less, ne)) is
]
