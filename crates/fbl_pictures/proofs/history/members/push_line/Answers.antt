use Rattle.fbl_pictures.proofs.Common.{arith, common_steps}
use Rattle.fbl_pictures.proofs.history.members.push_line.Goals as goal

pub loop-place-preserved : goal.loop-place-preserved
loop-place-preserved c = grind (arith, common_steps)
