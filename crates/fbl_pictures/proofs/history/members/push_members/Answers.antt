use Rattle.fbl_pictures.proofs.Common.{None, ◌++◌, ◌∙◌, ap, append_assoc, arith, false, length, rows_on, history_member_shapes, label_and_names, line_parts}
use Rattle.fbl_pictures.proofs.Steps.{rows_all}
use Rattle.fbl_pictures.proofs.history.members.push_members.Goals as goal

pub loop-number-preserved : goal.loop-number-preserved
loop-number-preserved c =
    let columns = c.args.columns.now in
    let shapes = c.loop-number.shapes.items in
    let m = c.at-member.result in
    let pushed =
    c.in_ok-push_line.ensures ∙ ap (λ s. s ++ line_parts m None false 0 columns) c.in_ok-push_names.ensures
    ∙ append_assoc shapes (label_and_names (length columns) m None) (line_parts m None false 0 columns)
    ∙ ap (λ m. shapes ++ history_member_shapes columns m) c.at-member.ensures in
    rw pushed (rows_on (history_member_shapes columns) c.args.members c.loop-number.number _ _ (omega arith) c.loop-number.invariant)

pub returns : goal.returns
returns c = rows_all (history_member_shapes c.args.columns.now) c.args.members c.loop-number.number _ _ (omega arith) c.loop-number.invariant
