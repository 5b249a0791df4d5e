use Rattle.fbl_member.proofs.Common.{refl, arith, nat_tests}
use Rattle.fbl_member.proofs.Logs.{kept, length-numbered}
use Rattle.fbl_member.proofs.member_rec.MemberRec.sent.Goals as goal

pub returns-clause-value : goal.returns-clause-value
returns-clause-value g c = grind (arith, nat_tests, length-numbered)

pub returns-clause-kept : goal.returns-clause-kept
returns-clause-kept g c = rw (← c.self.view_is) (kept _ c.self.inside.log.items c.self.invariant.0 c.self.invariant.1 c.self.invariant.2 refl)
