use Rattle.fbl_group.proofs.Common.{arith}
use Rattle.fbl_group.proofs.group.Group.checkpoint_of.Goals as goal

pub index-requires : goal.index-requires
index-requires g c = omega (arith, c.from.ensures, c.number.ensures.value, c.self.invariant.checkpoints, c.self.inside.checkpoints.ok.0, rw (← c.self.view_is) at c.requires)
