use Rattle.fbl_verdicts.proofs.Common.{◌≡◌, ◌∙◌, ap, audit_lines, map, puts_none, puts_right}
use Rattle.fbl_verdicts.proofs.audit_text.write_audit.Goals as goal

pub returns-in_err-lost : goal.returns-in_err-lost
returns-in_err-lost g c =
    puts_none (λ _ text. text ≡ audit_lines (map (λ r. r.determinant) c.args.audit.now.lost.items) c.args.audit.now.orphans) _ c.from_residual.result
    c.from_residual.ensures.1

pub returns : goal.returns
returns g c =
    let audit = c.args.audit.now in
    let lost = c.as_slice-2.ensures.value ∙ c.in_ok-lost.ensures ∙ ap (map (λ r. r.determinant)) c.as_slice.ensures.value in
    puts_right _ (λ _ text. text ≡ audit_lines (map (λ r. r.determinant) audit.lost.items) audit.orphans)
    (λ x text is. is ∙ ap (λ ds. audit_lines ds audit.orphans) lost) _ _ c.write_lines.result c.write_lines.ensures
