use Rattle.fbl_pictures.proofs.Common.{◌++◌, ◌∙◌, ap, arith, moment_part, moment_shapes, option_to_list, rows_on}
use Rattle.fbl_pictures.proofs.Steps.{rows_all}
use Rattle.fbl_pictures.proofs.run.members.push_moment.Goals as goal

pub loop-number-preserved : goal.loop-number-preserved
loop-number-preserved c =
    let n = c.loop-number.number in
    let part = c.moment_part.ensures ∙ (λ i. moment_part c.args.window.now (c.at.ensures i) (c.get-place.ensures i) (c.get-next.ensures i)) in
    let pushed = c.in_ok-push_any.ensures ∙ ap (λ s. c.loop-number.shapes.items ++ option_to_list s) part in
    rw pushed (rows_on (moment_shapes c.args.window.now c.args.moment.now) c.args.members n _ _ (omega arith) c.loop-number.invariant)

pub returns : goal.returns
returns c = rows_all (moment_shapes c.args.window.now c.args.moment.now) c.args.members c.loop-number.number _ _ (omega arith) c.loop-number.invariant
