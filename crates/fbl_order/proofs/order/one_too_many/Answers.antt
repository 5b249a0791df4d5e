use Rattle.fbl_order.proofs.Common.{ℕ, ◌∙◌, ap, arith, length, length-append, marks, refl, slice_get_read, sym, take, take_all}
use Rattle.fbl_order.proofs.Marks.{marks-none, marks-some}
use Rattle.fbl_order.proofs.order.one_too_many.Goals.{in-Some+else-count-eq-MOST_EVENTS, in_default}
use Rattle.fbl_order.proofs.order.one_too_many.Goals as goal

pub loop-place-preserved : goal.loop-place-preserved
loop-place-preserved c =
    let entries = c.args.entries.now in
    let place : ℕ = c.loop-place.place in
    let e = c.index-entries-place.result in
    let kept = c.loop-place.invariant in
    let at = slice_get_read entries _ place e refl c.loop-place-test.true c.index-entries-place.is in
    elim c.match-event.branch [
      | in-Some+else-count-eq-MOST_EVENTS w ↦
          let more = marks-some entries place e w.in-Some.event at (sym c.event.ensures ∙ w.in-Some.is) in
          let longer = ap length more ∙ length-append (marks (take place entries)) _ in
          record { count = omega (arith, kept.count, w.count-is, longer); few = omega (arith, kept.few, w.count-is, w.if-count-eq-MOST_EVENTS.false) }
      | in_default w ↦
          let same = ap length (marks-none entries place e at (sym c.event.ensures ∙ w.in_default.is)) in
          record { count = omega (arith, kept.count, w.count-is, same); few = omega (arith, kept.few, w.count-is) }
    ]

pub returns-then-count-eq-MOST_EVENTS : goal.returns-then-count-eq-MOST_EVENTS
returns-then-count-eq-MOST_EVENTS c =
    let e = c.index-entries-place.result in
    let at = slice_get_read c.args.entries.now _ c.loop-place.place e refl c.loop-place-test.true c.index-entries-place.is in
    ((e, at, sym c.event.ensures ∙ c.in-Some.is), sym c.loop-place.invariant.count ∙ c.if-count-eq-MOST_EVENTS.true, refl)

pub returns : goal.returns
returns c = omega (
  arith,
  c.loop-place.invariant.few,
  c.loop-place.invariant.count,
  ap (λ es. length (marks es)) (take_all c.loop-place.place c.args.entries.now
      c.loop-place-test.false),
)
