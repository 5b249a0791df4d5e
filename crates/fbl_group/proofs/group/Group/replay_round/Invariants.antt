use Rattle.fbl_group.proofs.Common.{Rounds}
use Rattle.fbl_group.proofs.group.Group.replay_round.Given as goal

abbrev pub invariant-loop-number : goal.invariant-loop-number
invariant-loop-number g l = Rounds g.B.Behaviour.next l.self l.number l.initial.rebuilt.items l.rebuilt.items l.replayed
