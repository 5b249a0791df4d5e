use Rattle.fbl_runs.proofs.Common.{ℕ, Bool, true, false, ◌≡◌, ◌∙◌, Determinant, Send, Some, StandsInLife, log_of, named_life, receipt_in, receipt_of, refl, send_of, subst, sym}
use Rattle.std.proofs.Common.{nat_eq, not}
use Rattle.fbl_runs.specs.Rules.{IsSentInLife}
use Rattle.fbl_runs.proofs.DueLaws.{mark_of_receipt, one_sent, same_iff}
use Rattle.fbl_runs.proofs.life_rules.takes.Goals as goal

no_other : (a b : ℕ) → false ≡ not (nat_eq a b) → a ≡ b
no_other a b is = (same_iff a b).0 (by_test (nat_eq a b) is) where
  by_test : (same : Bool) → false ≡ not same → same ≡ true
  by_test true is = refl
  by_test false is = is

pub returns-in-Some-send : goal.returns-in-Some-send
returns-in-Some-send c before has here =
    let from = c.args.from in
    let ssn = c.args.ssn in
    let to = c.args.to in
    let entry = c.args.entry.now in
    let send = c.args.send in
    let other = c.in-Some-send.other in
    let d : Determinant = c.in-Some.receipt in
    let is : receipt_in entry ≡ Some d = sym c.receipt.ensures ∙ c.in-Some.is in
    let same_from : d.from ≡ from = no_other d.from from c.if-ne.ensures in
    let same_to : d.to ≡ to = no_other d.to to c.if-ne-2.ensures in
    let same_ssn : d.ssn ≡ ssn = c.if-receipt-ssn.false in
    let sent : IsSentInLife (log_of before) from ssn to c.life.result other = c.in-Some-send.ensures before has in
    let takes : send_of (receipt_of d) ≡ Some (Send from ssn to) = λ t. Some (Send (same_from t) (same_ssn t) (same_to t)) in (
      λ same.
          let number : other ≡ send = (same_iff other send).0 same in
          let stands : StandsInLife (log_of before from) (named_life entry) other = subst (λ (life : ℕ). StandsInLife (log_of before from) life other) c.life.ensures sent.1 in
          (Send from ssn to, receipt_of d, here, mark_of_receipt entry d is, takes, subst (λ (k : ℕ). StandsInLife (log_of before from) (named_life entry) k) number stands),
      λ t.
          let stands : StandsInLife (log_of before from) c.life.result send = subst (λ (life : ℕ). StandsInLife (log_of before from) life send) (sym c.life.ensures) t.5 in
          (same_iff other send).1 (one_sent before c.args.lives.now has from ssn to c.life.result other send sent (here, stands)),
    )
