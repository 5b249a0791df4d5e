use Rattle.fbl_member.proofs.Common.{arith, common_steps}
use Rattle.fbl_member.proofs.buffers.empty_lists.Goals as goal

pub loop-place-preserved : goal.loop-place-preserved
loop-place-preserved c = grind (arith, common_steps)
