use Rattle.fbl_member.proofs.Common.{refl}
use Rattle.fbl_member.proofs.Logs.{bounded, numbered-more}
use Rattle.fbl_member.proofs.member_rec.MemberRec.replay_one.Goals as goal

pub invariant_of-self-2 : goal.invariant_of-self-2
invariant_of-self-2 g c = (let sends = rw (c.as_slice.ensures.value, c.step-outcome.ensures) at c.in_ok-extend_from_slice.ensures.items in bounded c.self.inside.received c.number.result c.args.determinant.now.ssn c.self.inside.last c.self.inside.log.items _ _ c.self.invariant.0 (rw (← c.self.view_is) at c.requires.receipts) sends (rw (← c.self.view_is) at c.requires.sends))

pub returns-clause-replayed : goal.returns-clause-replayed
returns-clause-replayed g c = (let sends = rw (c.as_slice.ensures.value, c.step-outcome.ensures) at c.in_ok-extend_from_slice.ensures.items in rw (← c.self.view_is, sends, numbered-more) (rw (c.step-outcome.ensures, c.number.ensures.value) refl))

pub invariant_of-self : goal.invariant_of-self
invariant_of-self g c = (c.self.invariant.0, c.self.invariant.1, rw c.in_err-extend_from_slice.ensures.items c.self.invariant.2)
