use Rattle.fbl_judge.proofs.Common.{Some, ap, arith, length, ◌<◌, ◌∙◌}
use Rattle.fbl_judge.proofs.RestartLaws.{is_restart, none_in}
use Rattle.fbl_judge.proofs.ViewLaws.{views_all, views_skip}
use Rattle.fbl_judge.proofs.Places.{read_at}
use Rattle.fbl_judge.proofs.views.views_of.Goals as goal
use Rattle.fbl_judge.proofs.views.views_of.Goals.{then-is_some+in_ok-views-2, else-is_some}

pub with_next-requires-clause-restart : goal.with_next-requires-clause-restart
with_next-requires-clause-restart c =
    let within : c.loop-place.place < length c.args.index.now = (let l = ap length c.entries-entry-items.ensures in let t = c.loop-place-test.true in omega (arith, l, t)) in
    let here = read_at c.args.index.now c.entries-entry-items.result.now c.loop-place.place c.entry-item.result c.entries-entry-items.ensures within c.entry-item.is in
    let back = is_restart c.entry-item.result c.restart.result c.is_some.result c.restart.ensures c.is_some.ensures c.if-is_some.true in
    (back.0, here ∙ ap Some back.1)

pub loop-place-preserved : goal.loop-place-preserved
loop-place-preserved c =
    let within : c.loop-place.place < length c.args.index.now = (let l = ap length c.entries-entry-items.ensures in let t = c.loop-place-test.true in omega (arith, l, t)) in
    let here = read_at c.args.index.now c.entries-entry-items.result.now c.loop-place.place c.entry-item.result c.entries-entry-items.ensures within c.entry-item.is in
    elim c.if-is_some.branch [
      | then-is_some+in_ok-views-2 w ↦ rw w.views-is w.in_ok-views-2.ensures
      | else-is_some w ↦ rw w.views-is (views_skip c.requires.lawful.0 c.args.index.now c.requires.lawful.1 c.loop-place.place c.entry-item.result c.loop-place.views.items here
          (none_in c.restart.result c.entry-item.result c.is_some.result c.restart.ensures c.is_some.ensures w.if-is_some.false) c.loop-place.invariant)
    ]

pub returns : goal.returns
returns c =
    views_all c.requires.lawful.0 c.args.index.now c.requires.lawful.1 c.loop-place.place c.loop-place.views.items
    (let l = ap length c.entries-entry-items.ensures in let t = c.loop-place-test.false in omega (arith, l, t)) c.loop-place.invariant
