use Rattle.fbl_pictures.proofs.Common.{◌++◌, ◌∙◌, ap, arith, option_to_list, stub, stub_where}
use Rattle.fbl_pictures.proofs.Steps.{drawn_all, drawn_on}
use Rattle.fbl_pictures.proofs.history.messages.push_stubs.Goals as goal

pub loop-place-preserved : goal.loop-place-preserved
loop-place-preserved c =
    let columns = c.args.columns.now in
    let i = c.loop-place.place in
    let x = c.index-columns-place.result in
    let known = c.stub.ensures ∙ (λ j. stub_where (λ m. c.in_ok-received.ensures m j) (λ q. c.in_ok-comebacks.ensures q j) i x) in
    rw (c.in_ok-push_any.ensures ∙ ap (λ o. c.loop-place.shapes.items ++ option_to_list o) known) (
    drawn_on columns i (stub columns) _ _ c.loop-place.invariant x (omega arith) c.index-columns-place.is)

pub returns : goal.returns
returns c = drawn_all c.args.columns.now c.loop-place.place (stub c.args.columns.now) _ _ c.loop-place.invariant (omega arith)
