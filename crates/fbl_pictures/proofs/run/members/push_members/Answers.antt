use Rattle.fbl_pictures.proofs.Common.{◌++◌, ◌∙◌, arith, rows_on, member_shapes, shapes_of_member}
use Rattle.std.specs.FinSet as set
use Rattle.fbl_pictures.proofs.Steps.{rows_all}
use Rattle.fbl_pictures.proofs.run.members.push_members.Goals as goal

pub loop-number-preserved : goal.loop-number-preserved
loop-number-preserved c =
    let lines = c.args.lines.now in
    let n = c.loop-number.number in
    let pushed = c.in_ok-push_member.ensures
    ∙ (λ i. c.loop-number.shapes.items ++ member_shapes c.args.window.now c.args.entries.now (c.at-member.ensures i) ((c.has.ensures ∙ (λ i. set.contains lines.struck (c.at-member.ensures i))) i) (c.get-start.ensures i) (c.get-moment.ensures i)) in
    rw pushed (rows_on (shapes_of_member c.args.window.now c.args.entries.now lines) c.args.members n _ _ (omega arith) c.loop-number.invariant)

pub returns : goal.returns
returns c = rows_all (shapes_of_member c.args.window.now c.args.entries.now c.args.lines.now) c.args.members c.loop-number.number _ _ (omega arith) c.loop-number.invariant
