use Rattle.fbl_runs.proofs.Common.{arith, ◌≡◌, ◌∙◌, inl, inr, cases_lt, sym, subst, ap, length, List, Entry, log_of}
use Rattle.fbl_runs.proofs.index.Index.last.Goals as goal

pub returns : goal.returns
returns c q = elim (cases_lt q 16) [
  | inl below ↦ c.loop-number.invariant.come q (let t = c.loop-number-test.false in omega (arith, below, t))
  | inr past ↦
      let none = c.loop-number.invariant.none q (λ below. (let t = c.loop-number.auto.number-end in omega (arith, below, past, t))) in
      let empty = ap length (c.self.invariant.lives.outside q past) in
      none ∙ subst (λ (es : List Entry). 0 ≡ length (log_of es q)) c.self.view_is (sym empty)
]
