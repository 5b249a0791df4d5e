use Rattle.fbl_records.proofs.Common.{ap, ◌∙◌, ◌++◌, IsUtf8-append, false≢true}
use Rattle.json.specs.Print.{print}
use Rattle.serde_json.proofs.Texts.{print-outline}
use Rattle.fbl_records.proofs.Newlines.{line_read, newline, newline_is_text}
use Rattle.fbl_records.proofs.lines.line_of.Goals as goal

pub returns-in-Ok : goal.returns-in-Ok
returns-in-Ok c = λ d is spelled.
    let made = c.into_inner-bytes.ensures in
    let bytes = rw c.requires at made.items in (
      ap (λ v. v.items) c.in-Ok.ensures.ok ∙ c.in_ok-push.ensures.items ∙ ap (λ t. t ++ newline) (bytes ∙ ap print is ∙ print-outline d),
      line_read d c.args.out.tokens is made.reads_back made.utf8 spelled,
    )

-- what was written is a text
pub returns : goal.returns
returns c =
    let made = c.into_inner-bytes.ensures in
    absurd (false≢true (c.in-Err.ensures.succeeds (rw (c.in_ok-push.ensures.items, made.items, c.requires) (IsUtf8-append _ newline made.utf8 newline_is_text))))
