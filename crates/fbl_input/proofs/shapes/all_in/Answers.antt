use Rattle.fbl_input.proofs.Common.{◌∙◌, ap, drop, ◌+◌, view}
use Rattle.fbl_input.proofs.Firsts.{With, all_read, none_read, read_more}
use Rattle.fbl_input.proofs.shapes.all_in.Goals as goal

pub loop-value-preserved : goal.loop-value-preserved
loop-value-preserved g c =
    let list = c.args.list.now in
    let i = c.loop-value.value-index in
    ap (λ items. With view g.S.JsonShape.shape items (drop (i + 1) list)) c.in_ok-push-in-Some.ensures.items
    ∙ read_more view g.S.JsonShape.shape list i c.value-item.result c.in-Some.one c.loop-value.all.items _ c.loop-value-test.true c.value-item.is c.in-Some.ensures c.loop-value.invariant

pub returns-in-None : goal.returns-in-None
returns-in-None g c =
    none_read view g.S.JsonShape.shape c.args.list.now c.loop-value.value-index c.value-item.result c.loop-value.all.items _ c.loop-value-test.true c.value-item.is c.in-None.ensures c.loop-value.invariant

pub returns : goal.returns
returns g c = all_read view g.S.JsonShape.shape c.args.list.now c.loop-value.value-index c.loop-value.all.items _ c.loop-value-test.false c.loop-value.invariant
