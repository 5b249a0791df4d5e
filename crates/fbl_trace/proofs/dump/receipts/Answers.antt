use Rattle.fbl_trace.proofs.Common.{arith}
use Rattle.fbl_trace.proofs.DumpLaws.{more}
use Rattle.fbl_trace.proofs.dump.receipts.Goals as goal

pub loop-event-preserved : goal.loop-event-preserved
loop-event-preserved c d =
    let next = more c.args.events.now c.loop-event.event-index c.event-item.result d (omega arith) c.event-item.is in
    elim c.match-determinant.branch [
      | goal.in-Some+in_ok-insert w ↦ (let now = w.in_ok-insert.ensures.updates.0 d in grind (arith, next, c.loop-event.invariant d, now))
      | goal.in_default w ↦ grind (arith, next, c.loop-event.invariant d)
    ]
