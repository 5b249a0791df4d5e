use Rattle.fbl_judge.proofs.Common.{List, arith, false≢true, length, refl, slice_get_read, subst, sym, take, ◌≡◌, ◌∙◌}
use Rattle.std.proofs.lemmas.List.{take_all}
use Rattle.fbl_judge.specs.declared.view.View.{View}
use Rattle.fbl_judge.specs.Views.{AreWith}
use Rattle.fbl_judge.proofs.ViewLaws.{restarts_few, views_next, with_added, with_kept}
use Rattle.fbl_judge.proofs.views.with_next.Goals as goal
use Rattle.fbl_judge.proofs.views.with_next.Goals.{then-may_have+in_ok-push-2, else-may_have}

pub with_restart-requires-clause-restarts : goal.with_restart-requires-clause-restarts
with_restart-requires-clause-restarts c =
    let here = slice_get_read c.args.views.now (length c.args.views.now) c.loop-view.view-index c.view-item.result refl c.loop-view-test.true c.view-item.is in
    let few = restarts_few c.requires.lawful.0 c.args.index.now c.requires.lawful.1 c.args.place c.requires.restart.0 c.requires.restart.1 c.restart_at-restart.result c.restart_at-restart.ensures c.view-item.result (c.requires.views.each c.loop-view.view-index c.view-item.result here).0 (c.may_have.ensures.0 c.if-may_have.true) in
    (let n = c.count-count.ensures in omega (arith, few, n))

pub with_restart-requires-clause-count : goal.with_restart-requires-clause-count
with_restart-requires-clause-count c =
    let here = slice_get_read c.args.views.now (length c.args.views.now) c.loop-view.view-index c.view-item.result refl c.loop-view-test.true c.view-item.is in
    let few = (c.requires.views.each c.loop-view.view-index c.view-item.result here).1 in
    (let room = c.requires.room in omega (arith, few, room))

pub loop-view-preserved : goal.loop-view-preserved
loop-view-preserved c =
    let here = slice_get_read c.args.views.now (length c.args.views.now) c.loop-view.view-index c.view-item.result refl c.loop-view-test.true c.view-item.is in
    elim c.if-may_have.branch [
      | then-may_have+in_ok-push-2 w ↦ rw (w.more-is, w.in_ok-push-2.ensures.items, c.in_ok-push.ensures.items)
          (with_added c.args.views.now c.loop-view.more.items c.restart_at-restart.result c.loop-view.view-index c.view-item.result w.with_restart.result here (c.may_have.ensures.0 w.if-may_have.true) w.with_restart.ensures c.loop-view.invariant)
      | else-may_have w ↦ rw (w.more-is, c.in_ok-push.ensures.items)
          (with_kept c.args.views.now c.loop-view.more.items c.restart_at-restart.result c.loop-view.view-index c.view-item.result here (λ may. false≢true (sym w.if-may_have.false ∙ c.may_have.ensures.1 may)) c.loop-view.invariant)
    ]

pub returns : goal.returns
returns c =
    let all : take c.loop-view.view-index c.args.views.now ≡ c.args.views.now = take_all c.loop-view.view-index c.args.views.now (let t = c.loop-view-test.false in omega (arith, t)) in
    views_next c.requires.lawful.0 c.args.index.now c.requires.lawful.1 c.args.place c.requires.restart.0 c.requires.restart.1 c.restart_at-restart.result c.restart_at-restart.ensures c.args.views.now c.loop-view.more.items
    (subst (λ (vs : List View). AreWith vs c.restart_at-restart.result c.loop-view.more.items) all c.loop-view.invariant) c.requires.views
