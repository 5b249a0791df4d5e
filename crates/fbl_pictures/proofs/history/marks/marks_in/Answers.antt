use Rattle.fbl_pictures.proofs.Common.{arith, column_marks}
use Rattle.fbl_pictures.proofs.Steps.{drawn_all, drawn_on}
use Rattle.fbl_history.specs.HistoryShapes.{history_marks}
use Rattle.fbl_pictures.proofs.history.marks.marks_in.Goals as goal

pub loop-place-preserved : goal.loop-place-preserved
loop-place-preserved c =
    rw c.in_ok-push_mark.ensures (
    drawn_on c.args.columns.now c.loop-place.place column_marks _ _ c.loop-place.invariant c.index-columns-place.result (omega arith) c.index-columns-place.is)

pub returns : goal.returns
unfolding history_marks
returns c = drawn_all c.args.columns.now c.loop-place.place column_marks _ _ c.loop-place.invariant (omega arith)
