use Rattle.fbl_member.proofs.Common.{arith, common_steps}
use Rattle.fbl_member.proofs.Logs.{beyond-later}
use Rattle.fbl_member.proofs.member_rec.MemberRec.unsent_beyond.Goals as goal

pub loop-place-init : goal.loop-place-init
loop-place-init g c = grind (arith, common_steps, beyond-later 0 c.args.ssn c.args.ssn c.self.inside.log.items c.args.to c.args.ssn (omega arith) (omega arith))

pub loop-place-preserved : goal.loop-place-preserved
loop-place-preserved g c = grind (arith, common_steps)

pub returns : goal.returns
returns g c = grind (arith, common_steps)
