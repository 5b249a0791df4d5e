use Rattle.fbl_verdicts.proofs.Common.{◌∙◌, ap, IsAuditText, audit_lines, puts_none, puts_right}
use Rattle.fbl_verdicts.proofs.audit_text.write_dump_audit.Goals as goal

pub returns-in_err-lost : goal.returns-in_err-lost
returns-in_err-lost g c = puts_none (λ _. IsAuditText c.args.dump.now) _ c.from_residual.result c.from_residual.ensures.1

pub returns-in_err-orphans : goal.returns-in_err-orphans
returns-in_err-orphans g c = puts_none (λ _. IsAuditText c.args.dump.now) _ c.from_residual-in_err-orphans.result c.from_residual-in_err-orphans.ensures.1

pub returns : goal.returns
returns g c =
    let lost = c.as_slice.ensures.value ∙ c.in_ok-lost.ensures in
    let orphans = c.in_ok-orphans.orphans in
    puts_right _ (λ _. IsAuditText c.args.dump.now) (λ x text is. (orphans, c.in_ok-orphans.ensures, is ∙ ap (λ ds. audit_lines ds orphans) lost)) _ _ c.write_lines.result c.write_lines.ensures
