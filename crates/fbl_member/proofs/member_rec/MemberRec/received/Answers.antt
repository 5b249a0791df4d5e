use Rattle.fbl_member.proofs.Common.{refl}
use Rattle.fbl_member.proofs.Logs.{kept}
use Rattle.fbl_member.proofs.member_rec.MemberRec.received.Goals as goal

pub returns-clause-kept : goal.returns-clause-kept
returns-clause-kept g c = rw (← c.self.view_is) (kept _ c.self.inside.log.items c.self.invariant.0 c.self.invariant.1 c.self.invariant.2 refl)
