use Rattle.fbl_turns.proofs.Common.{arith, refl, sym, ap, ◌∙◌, struck_at}
use Rattle.fbl_turns.proofs.Recording.{refused, committed, crashed, ends_without, receipt_record}
use Rattle.fbl_turns.proofs.Reaching.{planned_may}
use Rattle.fbl_turns.proofs.Keeping.{at-within}
use Rattle.fbl_turns.proofs.counted_group.make_turn.Goals as goal

pub returns-in-Err : goal.returns-in-Err
returns-in-Err g c = record { turn = refused c.in-Err.refusal c.in-Err.ensures.refused c.count_refusal.ensures c.in-Err.ensures.unchanged c.commit_with_room.ensures.same }

pub add-requires-clause-fits : goal.add-requires-clause-fits
add-requires-clause-fits g c =
    omega (arith, at-within _ _ c.requires.places.0, c.requires.counted.0, c.in_default.ensures.committed.1.1.2.delivery.receipts_ever, c.receipts_ever-ever.ensures, c.receipts_ever-ever.type_inv)

pub add-requires-clause-place : goal.add-requires-clause-place
add-requires-clause-place g c = c.requires.places.0

pub keep-requires : goal.keep-requires
keep-requires g c = c.in_default.ensures.room

pub keep-requires-2 : goal.keep-requires-2
keep-requires-2 g c = c.in_default.ensures.room

pub crash-recovery-requires-clause-place : goal.crash-recovery-requires-clause-place
crash-recovery-requires-clause-place g c = c.requires.places.1

pub crash-recovery-requires-clause-counted : goal.crash-recovery-requires-clause-counted
crash-recovery-requires-clause-counted g c = omega (arith, c.requires.counted.1, c.in_default.ensures.committed.1.1.2.delivery.undone_ever)

pub returns-in_default-planned_set : goal.returns-in_default-planned_set
returns-in_default-planned_set g c = record {
  turn =
      committed c.in_default.ensures.committed (receipt_record c.ticket-ticket.ensures c.sent.ensures) c.commit_with_room.ensures.same
      c.keep.ensures c.add.ensures (ap (struck_at c.args.plan.now) (sym c.receipts_ever-ever.ensures) ∙ sym c.planned_set.ensures ∙ c.in_default-planned_set.is) refl;
}

pub crash-recovery-requires-clause-allowed : goal.crash-recovery-requires-clause-allowed
crash-recovery-requires-clause-allowed g c =
    let d = c.in_default.ensures.committed.1.1.2.delivery in
    planned_may c.args.plan.now c.args.group.now.config c.commit_with_room.new.group c.commit_with_room.new.group.receipts_ever c.in-Some.set c.requires.plan d.config (d.down ∙ d.nobody_down)
    (ap (struck_at c.args.plan.now) (sym c.receipts_ever-ever.ensures) ∙ sym c.planned_set.ensures ∙ c.in-Some.is)

pub returns : goal.returns
returns g c = record {
  turn =
      crashed c.in_default.ensures.committed (receipt_record c.ticket-ticket.ensures c.sent.ensures) c.commit_with_room.ensures.same
      c.keep-2.ensures c.add.ensures c.in-Some.set c.crash-recovery.result (ends_without _ _ c.is_none-ends.ensures)
      (ap (struck_at c.args.plan.now) (sym c.receipts_ever-ever.ensures) ∙ sym c.planned_set.ensures ∙ c.in-Some.is) c.crash-recovery.ensures refl;
}
