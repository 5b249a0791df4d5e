use Rattle.fbl_pictures.proofs.Common.{◌++◌, ◌∙◌, ap, arith, arrow_from, option_to_list, receipt_arrow}
use Rattle.fbl_pictures.proofs.Steps.{drawn_all, drawn_on}
use Rattle.fbl_pictures.proofs.history.messages.push_arrows.Goals as goal

pub loop-place-preserved : goal.loop-place-preserved
loop-place-preserved c =
    let columns = c.args.columns.now in
    let i = c.loop-place.place in
    let x = c.index-columns-place.result in
    let was = c.loop-place.invariant in
    let known = c.arrow.ensures ∙ (λ j. arrow_from (λ m. was.0 m j) (λ q. was.1 q j) i x) in
    let pushed = c.in_ok-push_any.ensures ∙ ap (λ o. c.loop-place.shapes.items ++ option_to_list o) known in
    let on = drawn_on columns i (receipt_arrow columns) _ _ was.2 x (omega arith) c.index-columns-place.is in
    (c.in_ok-note_send.ensures, c.in_ok-note_comebacks.ensures, rw pushed on)

pub returns : goal.returns
returns c = drawn_all c.args.columns.now c.loop-place.place (receipt_arrow c.args.columns.now) _ _ c.loop-place.invariant.2 (omega arith)
