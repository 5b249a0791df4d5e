use Rattle.fbl_group.proofs.Common.{arith}
use Rattle.fbl_group.proofs.group.Group.receipt_count.Goals as goal

pub returns : goal.returns
returns g c = rw (← c.self.view_is) (omega (arith, c.self.invariant.counted))
