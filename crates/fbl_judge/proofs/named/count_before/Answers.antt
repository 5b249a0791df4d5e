use Rattle.fbl_judge.proofs.Common.{arith, ℕ, ◌≡◌, ◌∙◌, ◌<◌, inl, inr, cases_eq, sym, subst, false≢true, Precedes, Position, Dependence, StandsAt, log_of, at, length}
use Rattle.std.proofs.Common.{◌+◌, ◌-◌, ◌/◌}
use Rattle.fbl_judge.proofs.Dependents.{depends_on}
use Rattle.fbl_judge.proofs.named.count_before.Goals as goal

pub loop-first-preserved : goal.loop-first-preserved
loop-first-preserved c = record {
  order = (let less = c.loop-first-test.true in omega (arith, less));
  within = c.loop-first.invariant.within;
  none = λ i k stands below path. elim (cases_eq k middle) [
    | inl same ↦ no i stands (subst (λ (k : ℕ). Precedes Dependence (log_of c.args.pasts.now.entries) i (at c.args.member k)) same path)
    | inr ne ↦ no i stands (depends_on (log_of c.args.pasts.now.entries) i c.args.member k middle c.requires.alive within (omega (arith, below, ne)) path)
  ];
  some = c.loop-first.invariant.some;
} where
  middle : ℕ
  middle = c.loop-first.first + (c.loop-first.end - c.loop-first.first) / 2

  within : middle < length (log_of c.args.pasts.now.entries c.args.member)
  within = (let less = c.loop-first-test.true in let end = c.loop-first.invariant.within in let count = c.requires.count in omega (arith, less, end, count))

  no : (i : Position) → StandsAt c.args.pasts.now.entries c.args.receipt i → ¬ (Precedes Dependence (log_of c.args.pasts.now.entries) i (at c.args.member middle))
  no i stands path = false≢true (sym c.if-depends.false ∙ (c.depends.ensures i stands).1 path)

pub returns-clause-next : goal.returns-clause-next
returns-clause-next c i stands below =
    let same : c.loop-first.end ≡ c.loop-first.first = (let order = c.loop-first.invariant.order in let test = c.loop-first-test.false in omega (arith, order, test)) in
    subst (λ (k : ℕ). Precedes Dependence (log_of c.args.pasts.now.entries) i (at c.args.member k)) same (c.loop-first.invariant.some i stands (omega (arith, same, below)))
