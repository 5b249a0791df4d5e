use Rattle.std.proofs.Common.{◌≡◌, length, refl, Some}
use Rattle.std.specs.Prelude.{slice_get}
use Rattle.std.proofs.lemmas.List.{take_more}
use Rattle.std.proofs.lemmas.Option.{slice_get_read}
use Rattle.fbl_history.specs.Records.{so_far}
use Rattle.fbl_history.proofs.Recording.{records_more, stopped_err}
use Rattle.fbl_history.proofs.record.columns.add_all.Goals as goal

pub loop-column-init : goal.loop-column-init
loop-column-init g c = refl

pub loop-column-preserved : goal.loop-column-preserved
loop-column-preserved g c =
    rw (take_more c.args.columns.now c.loop-column.column-index c.column-item.result c.loop-column-test.true, ← c.column-item.is)
    (records_more g.B.Behaviour.next _ c.column-item.result _ _ _ c.loop-column.invariant c.in_ok-add.ensures.recorded)

pub returns-in_err-add-clause-refused : goal.returns-in_err-add-clause-refused
returns-in_err-add-clause-refused g c =
    let columns = c.args.columns.now in
    let place = c.loop-column.column-index in
    let here : slice_get columns place ≡ Some c.column-item.result = slice_get_read columns (length columns) place c.column-item.result refl c.loop-column-test.true c.column-item.is in
    stopped_err c.from_residual.result _ _ _
    (λ refuses. (place, c.column-item.result, so_far c.loop-column.group c.loop-column.written, here, c.loop-column.invariant, refuses))
    c.from_residual.ensures.1 c.in_err-add.ensures.refused
