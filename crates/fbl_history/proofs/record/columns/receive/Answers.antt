use Rattle.std.proofs.Common.{◌∙◌, ◌+◌, arith, drop, inr, length, sym}
use Rattle.fbl_trace.specs.Events.{mark_of}
use Rattle.fbl_history.proofs.Recording.{makes, trace_grows}
use Rattle.fbl_history.proofs.record.columns.receive.Goals as goal

pub returns-then-not-is_same-clause-refused : goal.returns-then-not-is_same-clause-refused
returns-then-not-is_same-clause-refused g c =
    let old = c.args.group.now in
    let new = c.deliver.new.group in
    let event = c.index-trace-events.result in
    let delivered = c.in_ok-deliver.ensures.delivered in
    let longer = trace_grows g.B.Behaviour.next old new _ _ _ delivered.1 in
    let here = rw (c.trace.ensures.trace, c.trace-events.ensures.trace) at c.index-trace-events.is in
    inr (
      new,
      delivered.0,
      mark_of event,
      drop (length old.trace + 1) new.trace,
      delivered.1,
      makes old new event longer here,
      (λ same.
          let yes = c.is_same.ensures.1 (c.mark.ensures ∙ same ∙ sym c.receipt.ensures) in
          grind (arith, yes, c.if-not-is_same.true)),
    )

pub returns-clause-received : goal.returns-clause-received
returns-clause-received g c =
    let old = c.args.group.now in
    let new = c.deliver.new.group in
    let event = c.index-trace-events.result in
    let delivered = c.in_ok-deliver.ensures.delivered in
    let longer = trace_grows g.B.Behaviour.next old new _ _ _ delivered.1 in
    let here = rw (c.trace.ensures.trace, c.trace-events.ensures.trace) at c.index-trace-events.is in
    let same = sym c.mark.ensures ∙ c.is_same.ensures.0 (grind (arith, c.if-not-is_same.false)) ∙ c.receipt.ensures in
    record {
      answer = delivered.0;
      delivers = delivered.1;
      sends = drop (length old.trace + 1) new.trace;
      makes = rw same at (makes old new event longer here);
      lives = c.in_ok-tell_of_lives.ensures.lives;
      saved = c.in_ok-tell_of_lives.ensures.saved;
      untold = c.in_ok-tell_of_lives.ensures.untold;
      entries = rw (
        c.in_ok-tell_of_lives.ensures.told,
        c.life_of-life.ensures,
        c.in_ok-tell_of_lives.ensures.lives,
        c.len-held.ensures.len,
        c.table.ensures,
        c.table-2.ensures,
        c.events_from-sends.ensures,
        c.trace-2.ensures.trace,
        c.trace-events.ensures.trace,
      ) at c.in_ok-push_receipt.ensures;
    }

pub events_from-sends-requires : goal.events_from-sends-requires
events_from-sends-requires g c =
    let longer = trace_grows g.B.Behaviour.next c.args.group.now c.deliver.new.group _ _ _ c.in_ok-deliver.ensures.delivered.1 in
    rw (c.trace-2.ensures.trace, c.trace-events.ensures.trace) (omega (arith, longer))
