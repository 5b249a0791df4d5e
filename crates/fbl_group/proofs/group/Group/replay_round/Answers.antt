use Rattle.fbl_group.proofs.Recovering.{arith, sym, ◌∙◌, replayed_in-short, all-done, one-at-most, round-step, round-up}
use Rattle.fbl_group.proofs.group.Group.replay_round.Goals as goal

pub overflow_add-replayed : goal.overflow_add-replayed
overflow_add-replayed g c = let so_far = c.loop-number.invariant in let few = replayed_in-short g.B.Behaviour.next _ c.recoverable.ensures.sound c.loop-number.rebuilt.items so_far.replaying.replaying in omega (arith, so_far.counted, few, c.from.ensures, one-at-most c.in_ok-replay_next.field-0)

pub loop-number-preserved : goal.loop-number-preserved
loop-number-preserved g c =
    elim c.if-has.branch [
      | goal.then-has+in_ok-replay_next w ↦
          rw (w.rebuilt-is, w.replayed-is) (round-step c.loop-number.invariant _ w.replay_next.new.rebuilt.items c.at-member.ensures w.from.ensures w.in_ok-replay_next.ensures)
      | goal.else-has w ↦ rw (w.rebuilt-is, w.replayed-is) (round-up c.loop-number.invariant (cc))
    ]

pub returns : goal.returns
returns g c = rw (all-done c.loop-number-test.false c.loop-number.auto.number-end c.size-number-end.ensures.value) at c.loop-number.invariant

pub replay_next-requires : goal.replay_next-requires
replay_next-requires g c = record { numbered = c.requires.numbered; down = rw c.down.ensures.down at (sym c.has.ensures ∙ c.if-has.true); replaying = c.loop-number.invariant.replaying }
