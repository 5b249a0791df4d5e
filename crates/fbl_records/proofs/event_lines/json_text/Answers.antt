use Rattle.fbl_records.proofs.Common.{◌≡◌, ◌∙◌, ap, json_of, refl, sym}
use Rattle.fbl_records.specs.EventLines.{is_whole}
use Rattle.fbl_records.proofs.EventLines.{lines_meant, own_text}
use Rattle.fbl_records.specs.declared.event_lines.JsonText.{JsonText}
use Rattle.fbl_records.proofs.event_lines.json_text.Goals as goal
use Rattle.fbl_records.proofs.event_lines.json_text.Goals.{After-is_whole}

read : (c : After-is_whole) → is_whole (json_of c.args.input.items) ≡ c.is_whole.result
read c = ap is_whole (sym (rw c.as_slice.ensures.value at c.in_ok-value.ensures)) ∙ sym c.is_whole.ensures

pub returns-then-is_whole-clause-text : goal.returns-then-is_whole-clause-text
returns-then-is_whole-clause-text c = sym (own_text c.args.input.items (read (goal.at.returns-then-is_whole-clause-text c).After-is_whole ∙ c.if-is_whole.true))

pub returns-in-Some-clause-text : goal.returns-in-Some-clause-text
returns-in-Some-clause-text c =
    sym (lines_meant (λ (found : JsonText). found.text.items) c.args.input.items c.in_ok-found.field-0
    (read (goal.at.returns-in-Some-clause-text c).After-is_whole ∙ c.if-is_whole.false) (rw c.as_slice-2.ensures.value at c.in_ok-found.ensures.text)
    ∙ rw c.in-Some.is refl)

pub returns-in-None-clause-text : goal.returns-in-None-clause-text
returns-in-None-clause-text c =
    sym (lines_meant (λ (found : JsonText). found.text.items) c.args.input.items c.in_ok-found.field-0
    (read (goal.at.returns-in-None-clause-text c).After-is_whole ∙ c.if-is_whole.false) (rw c.as_slice-2.ensures.value at c.in_ok-found.ensures.text)
    ∙ rw c.in-None.is refl)
