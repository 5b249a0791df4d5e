use Rattle.fbl_verdicts.proofs.Common.{◌≡◌, ◌∙◌, audit_lines, puts_text}
use Rattle.fbl_verdicts.proofs.audit_text.write_lines.Goals as goal

pub returns : goal.returns
returns g c =
    puts_text (λ _ text. text ≡ audit_lines c.args.lost.now c.args.orphans) _ (c.as_bytes.ensures.value ∙ c.in_ok-text.ensures) _ _ c.put.result
    c.put.ensures.whole c.put.ensures.front c.put.ensures.fault
