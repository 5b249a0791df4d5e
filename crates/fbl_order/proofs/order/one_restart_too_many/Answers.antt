use Rattle.fbl_order.proofs.Common.{ℕ, ◌≡◌, ◌∙◌, ap, arith, inr, is_some, refl, restarts, slice_get_read, sym, take_all}
use Rattle.fbl_order.proofs.Marks.{is_restart-is, restart_there, restarts-more, weight}
use Rattle.fbl_runs.specs.Rules.{is_restart}
use Rattle.fbl_order.proofs.order.one_restart_too_many.Goals.{then-is_some+else-count-eq-MOST_RESTARTS, else-is_some}
use Rattle.fbl_order.proofs.order.one_restart_too_many.Goals as goal

pub loop-place-preserved : goal.loop-place-preserved
loop-place-preserved c =
    let entries = c.args.entries.now in
    let place : ℕ = c.loop-place.place in
    let e = c.index-entries-place.result in
    let kept = c.loop-place.invariant in
    let at = slice_get_read entries _ place e refl c.loop-place-test.true c.index-entries-place.is in
    let more = restarts-more entries place e at in
    let tested = is_restart-is e ∙ ap is_some (sym c.restart.ensures) ∙ sym c.is_some.ensures in
    elim c.if-is_some.branch [
      | then-is_some+else-count-eq-MOST_RESTARTS w ↦
          let one : weight (is_restart e) ≡ 1 = ap weight (tested ∙ w.if-is_some.true) in
          record { count = omega (arith, kept.count, w.count-is, more, one); few = omega (arith, kept.few, w.count-is, w.if-count-eq-MOST_RESTARTS.false) }
      | else-is_some w ↦
          let none : weight (is_restart e) ≡ 0 = ap weight (tested ∙ w.if-is_some.false) in
          record { count = omega (arith, kept.count, w.count-is, more, none); few = omega (arith, kept.few, w.count-is) }
    ]

pub returns-then-count-eq-MOST_RESTARTS : goal.returns-then-count-eq-MOST_RESTARTS
returns-then-count-eq-MOST_RESTARTS c =
    let e = c.index-entries-place.result in
    let at = slice_get_read c.args.entries.now _ c.loop-place.place e refl c.loop-place-test.true c.index-entries-place.is in
    let r = restart_there e (is_restart-is e ∙ ap is_some (sym c.restart.ensures) ∙ sym c.is_some.ensures ∙ c.if-is_some.true) in
    (at, inr (r.0, r.1, sym c.loop-place.invariant.count ∙ c.if-count-eq-MOST_RESTARTS.true, refl))

pub returns : goal.returns
returns c = omega (
  arith,
  c.loop-place.invariant.few,
  c.loop-place.invariant.count,
  ap restarts (take_all c.loop-place.place c.args.entries.now c.loop-place-test.false),
)
