use Rattle.fbl_judge.proofs.Common.{arith, ℕ, ◌≡◌, ◌∙◌, ◌↔◌, true, false, Bool, ap, sym, refl, false≢true, Members}
use Rattle.std.specs.Cmp.{nat_cmp_total}
use Rattle.std.specs.FinSet as set
use Rattle.fbl_judge.proofs.check.least_in.Goals as goal

-- what the first has and the other does not
own : (first other : Members) (q : ℕ) → (set.contains (set.difference first other) q ≡ true) ↔ ((set.contains other q ≡ false) × (set.contains first q ≡ true))
own first other q = grind (arith, set.contains-difference nat_cmp_total first other q)

-- what it has and is not among these, the other has too
has_too : (first other : Members) (q : ℕ) → ¬ (set.contains (set.difference first other) q ≡ true) → set.contains first q ≡ true → set.contains other q ≡ true
has_too first other q none has = by_test (set.contains other q) refl where
  by_test : (b : Bool) → set.contains other q ≡ b → set.contains other q ≡ true
  by_test true yes' = yes'
  by_test false no' = absurd (none ((own first other q).1 (no', has)))

pub returns-in_err-outsider : goal.returns-in_err-outsider
returns-in_err-outsider c = rw c.from_residual.ensures (λ q has. has_too c.args.first c.args.other q (λ here. (
    let below = c.in_err-outsider.ensures q (ap (λ s. set.contains s q) c.without.ensures ∙ here) in
    omega (arith, below))) has)

pub returns : goal.returns
returns c =
    let m = c.in_ok-outsider.outsider.member in
    let is = c.in_ok-outsider.ensures in
    let here = (own c.args.first c.args.other m).0 (ap (λ s. set.contains s m) (sym c.without.ensures) ∙ is.0) in
    record {
      own = here.1;
      out = here.0;
      least = λ k below has. has_too c.args.first c.args.other k (λ there. (
          let none = is.2 k (omega arith) below in
          false≢true (sym none ∙ ap (λ s. set.contains s k) c.without.ensures ∙ there))) has;
    }
