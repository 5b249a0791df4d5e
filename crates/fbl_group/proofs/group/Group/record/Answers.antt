use Rattle.fbl_group.proofs.Common.{arith, subst, IsSound}
use Rattle.fbl_group.proofs.group.Group.record.Goals as goal

pub index-requires : goal.index-requires
index-requires g c = omega (arith, c.from.ensures, c.number.ensures.value, c.self.invariant.members, c.self.inside.members.ok.0, rw (← c.self.view_is) at c.requires)

pub returns-clause-sound : goal.returns-clause-sound
returns-clause-sound g c = subst (IsSound g.B.Behaviour.next) c.self.view_is c.self.invariant
