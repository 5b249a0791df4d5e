use Rattle.fbl_trace.proofs.Common.{arith}
use Rattle.fbl_trace.proofs.Sets.{below_sixteen}
use Rattle.fbl_trace.proofs.member_set.MemberSet.outsider.Goals as goal

pub returns : goal.returns
returns c q has = grind (arith, below_sixteen)
