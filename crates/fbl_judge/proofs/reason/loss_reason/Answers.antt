use Rattle.fbl_judge.proofs.Common.{◌≡◌, ◌∙◌, ◌↔◌, ℕ, true, ap, sym, subst, cut_of, log_of, Cut, DependsAt, Members, RunParts}
use Rattle.std.specs.FinSet as set
use Rattle.fbl_judge.specs.Audits.{end_of}
use Rattle.fbl_judge.specs.Reasons.{IsLossReason}
use Rattle.fbl_judge.proofs.Audits.{left_orphans}
use Rattle.fbl_judge.proofs.ReasonLaws.{ok_both, same_reason}
use Rattle.fbl_judge.proofs.reason.loss_reason.Goals as goal

pub returns : goal.returns
returns c =
    let run = c.args.pasts.now in
    let i = c.requires.0 in
    let named = c.requires.1 in
    let end : cut_of c.last-moment.result ≡ end_of run = (λ x q. c.last-moment.ensures q x) in
    let strike : c.strike-strike.result ≡ run.strike = c.strike-strike.ensures ∙ ap (λ (run : RunParts). run.strike) c.run.ensures.run in
    let depend = subst (λ (cut : Cut). (q : ℕ) → (set.contains c.dependents.result q ≡ true) ↔ DependsAt (log_of run.entries) cut i q) end (c.dependents.ensures i named.place) in
    let left = left_orphans run (end_of run) i c.dependents.result c.without-orphans.result (c.without-orphans.ensures ∙ ap (λ (s : Members). set.difference c.dependents.result s) strike) depend in
    ok_both _ _ (IsLossReason run c.args.receipt.now) c.reason_at.result c.reason_at.ensures.receipt (c.reason_at.ensures.reason i named.place) (λ reason is why. record {
      place = is.0;
      determinant = is.1;
      at = is.2;
      strike = is.3 ∙ strike;
      receipt = i;
      named = named;
      why = same_reason run i (cut_of c.last-moment.result) (end_of run) _ _ reason end
          (λ q. (λ h. (left q).0 h.0, λ h. ((left q).1 h, subst (λ (cut : Cut). DependsAt (log_of run.entries) cut i q) (sym end) h.1))) why;
    })
