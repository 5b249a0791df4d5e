use Rattle.fbl_group.proofs.Common.{◌≡◌, ◌∙◌, sym, get_or, arith, take, is_lost_receipt_of, count_by_more_yes, count_by_more_no, length-take, take_all, count_by-le-length}
use Rattle.fbl_group.proofs.strike.lost.count_lost.Goals as goal

pub overflow_add-lost : goal.overflow_add-lost
overflow_add-lost g c = let fits = count_by-le-length (is_lost_receipt_of c.args.down c.args.members.now c.args.checkpoints.now) (take c.loop-event.event-index c.args.trace.now) in omega (arith, c.loop-event.invariant, c.requires, fits, length-take c.loop-event.event-index c.args.trace.now)

pub loop-event-preserved : goal.loop-event-preserved
loop-event-preserved g c =
    let trace = c.args.trace.now in
    let i = c.loop-event.event-index in
    let is_lost = is_lost_receipt_of c.args.down c.args.members.now c.args.checkpoints.now in
    let asked : is_lost (get_or trace i c.event-item.result) ≡ c.is_lost_receipt.result = rw (← c.event-item.is) (sym c.is_lost_receipt.ensures) in
    elim c.if-is_lost_receipt.branch [
      | goal.then-is_lost_receipt w ↦
          rw w.lost-is (omega (arith, c.loop-event.invariant, count_by_more_yes is_lost trace i c.event-item.result c.loop-event-test.true (asked ∙ w.if-is_lost_receipt.true)))
      | goal.else-is_lost_receipt w ↦
          rw w.lost-is (c.loop-event.invariant ∙ sym (count_by_more_no is_lost trace i c.event-item.result c.loop-event-test.true (asked ∙ w.if-is_lost_receipt.false)))
    ]

pub returns : goal.returns
returns g c = rw (take_all c.loop-event.event-index c.args.trace.now c.loop-event-test.false) at c.loop-event.invariant
