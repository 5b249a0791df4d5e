use Rattle.fbl_records.proofs.Common.{◌≡◌, ◌∙◌, ap, sym, arith, le-leb}
use Rattle.std.specs.Prelude.{slice_index}
use Rattle.fast_float.specs.Text.{scan}
use Rattle.fbl_records.proofs.TokenLaws.{number_spelled}
use Rattle.fbl_records.proofs.dump_tokens.next_number.Goals as goal

pub returns-then-number-most : goal.returns-then-number-most
returns-then-number-most c =
    let same : c.scan.result ≡ scan c.in-Number.text.now = c.scan.ensures.parts ∙ ap scan c.as_bytes-digits.ensures.value in
    let found = rw same at c.in_ok-number.ensures in
    let number = c.in_ok-number.number in (
      c.in-Number.text.now,
      rw c.in-Number.is at c.in_ok-text.ensures.value,
      number_spelled c.in-Number.text.now number (λ e. c.if-first-eq45.false (c.in_ok-first.ensures.item.3.1 0 ∙ ap (λ s. slice_index s 0) c.as_bytes-digits.ensures.value ∙ e)) found.0.0 (sym found.1) (rw found.1 found.0.1),
      rw (le-leb 0 number (omega arith), le-leb number c.args.most c.if-number-most.true),
    )
