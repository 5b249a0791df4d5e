use Rattle.fbl_group.proofs.Common.{◌≡◌, ◌-◌, AreReplaying, replayed_in}
use Rattle.fbl_group.proofs.group.Group.replay_all.Given as goal

abbrev pub invariant-rounds : goal.invariant-rounds
invariant-rounds g l = record { replaying : AreReplaying g.B.Behaviour.next l.self l.rebuilt.items; counted : l.replayed ≡ replayed_in l.self l.rebuilt.items }

abbrev pub decreases-rounds : goal.decreases-rounds
decreases-rounds g l = 8192 - replayed_in l.self l.rebuilt.items
