use Rattle.fbl_judge.proofs.Common.{◌≡◌, ◌∙◌, ◌==◌, ℕ, true, false, ap, arith, nat_tests, sym, subst, false≢true, Members, Determinant, log_of, cut_of, HoldsAt, IsReceiptAt, Position, RunParts}
use Rattle.std.specs.FinSet as set
use Rattle.std.proofs.Common.{not}
use Rattle.fbl_runs.proofs.LeadsLaws.{one_position}
use Rattle.fbl_judge.proofs.Audits.{none_left, one_determinant}
use Rattle.fbl_judge.proofs.audit.loses.Goals as goal

pub returns-then-not-stands : goal.returns-then-not-stands
returns-then-not-stands c i at_i =
    let undone : c.stands.result ≡ false = grind (arith, nat_tests, c.if-not-stands.true) in
    (λ no'. absurd (false≢true no'), λ lost. absurd (false≢true (sym undone ∙ (c.stands.ensures i at_i).1 lost.0)))

pub returns-then-not-recorded : goal.returns-then-not-recorded
returns-then-not-recorded c i at_i =
    let run = c.args.pasts.now in
    let d = c.args.receipt.now.determinant in
    let cut = cut_of c.args.moment.now in
    let holders = c.recorded_at-recorded.result.holders in
    let there : c.stands.result ≡ true = grind (arith, nat_tests, c.if-not-stands.false) in
    let named = c.requires in
    let same = one_position run.entries c.args.receipt.now.place named.0 i named.1.place at_i in
    let receipt = subst (λ (i : Position). IsReceiptAt (log_of run.entries) d i) same named.1.determinant in
    let strike : c.strike.result ≡ run.strike = c.strike.ensures ∙ ap (λ (run : RunParts). run.strike) c.run.ensures.run in
    let is : c.is_empty.result ≡ (set.len (set.difference holders run.strike) == 0) =
    c.is_empty.ensures ∙ ap (λ (s : Members). set.len s == 0) (c.without.ensures ∙ ap (λ (s : Members). set.difference holders s) strike) in
    let none = none_left holders run.strike (HoldsAt (log_of run.entries) cut d) c.recorded_at-recorded.ensures.holders c.is_empty.result is in
    let unstored : ¬ (c.recorded_at-recorded.result.is_stored ≡ true) = λ is. false≢true (sym (ap not is) ∙ c.if-not-recorded.true) in (
      λ h. ((c.stands.ensures i at_i).0 there, (d, receipt, ((λ stored. unstored (c.recorded_at-recorded.ensures.stored.1 stored)), none.0 h))),
      λ lost. none.1 (subst (λ (d : Determinant). (q : ℕ) → set.contains run.strike q ≡ false → ¬ (HoldsAt (log_of run.entries) cut d q)) (one_determinant run.entries i lost.1.0 d lost.1.1 receipt) lost.1.2.1),
    )
