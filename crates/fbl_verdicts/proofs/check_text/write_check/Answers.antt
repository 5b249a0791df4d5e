use Rattle.fbl_verdicts.proofs.Common.{puts_front, puts_none}
use Rattle.fbl_verdicts.specs.Texts.{IsCheckText, IsChecked}
use Rattle.fbl_verdicts.proofs.check_text.write_check.Goals as goal

pub returns-in_err-checked : goal.returns-in_err-checked
returns-in_err-checked g c =
    puts_none (λ checked text. IsChecked c.args.pasts.now checked × IsCheckText c.args.sources.now checked text) _ c.from_residual.result c.from_residual.ensures.1

pub returns-in_err-text : goal.returns-in_err-text
returns-in_err-text g c =
    puts_none (λ checked text. IsChecked c.args.pasts.now checked × IsCheckText c.args.sources.now checked text) _ c.from_residual-in_err-text.result
    c.from_residual-in_err-text.ensures.1

pub returns-in_err-put : goal.returns-in_err-put
returns-in_err-put g c =
    puts_front (λ checked text. IsChecked c.args.pasts.now checked × IsCheckText c.args.sources.now checked text) c.in_ok-checked.checked c.as_bytes.result.now
    (rw c.as_bytes.ensures.value (c.in_ok-checked.ensures, c.in_ok-text.ensures)) _ _ c.in_err-put.field-0.0
    c.from_residual-in_err-put.result c.from_residual-in_err-put.ensures.1 c.in_err-put.ensures.front c.in_err-put.ensures.fault
