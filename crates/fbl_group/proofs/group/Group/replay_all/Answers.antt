use Rattle.fbl_group.proofs.Common.{arith, replayed_in-short}
use Rattle.fbl_group.proofs.group.Group.replay_all.Goals as goal

pub rounds-smaller : goal.rounds-smaller
rounds-smaller g c = omega (arith, c.in_ok-more.ensures.counted, replayed_in-short g.B.Behaviour.next _ c.recoverable.ensures.sound _ c.in_ok-more.ensures.replaying.replaying)

pub overflow_add-replayed : goal.overflow_add-replayed
overflow_add-replayed g c = let round = c.in_ok-more.ensures in omega (arith, c.rounds.invariant.counted, round.counted, replayed_in-short g.B.Behaviour.next _ c.recoverable.ensures.sound _ round.replaying.replaying)

pub returns-then-more-eq0 : goal.returns-then-more-eq0
returns-then-more-eq0 g c = let round = c.in_ok-more.ensures in let still = round.waiting c.if-more-eq0.true in record { all = round.replaying; waiting = λ p below down. rw still.0 (still.1 p below down); counted = omega (arith, c.rounds.invariant.counted, round.counted, c.if-more-eq0.true) }
