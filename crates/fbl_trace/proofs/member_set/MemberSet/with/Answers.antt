use Rattle.fbl_trace.proofs.Sets.{insert_bits}
use Rattle.fbl_trace.proofs.member_set.MemberSet.with.Goals as goal

pub returns : goal.returns
returns c = rw (← c.self.view_is, ← c.number.ensures.value) (insert_bits c.self.inside.bits c.number.result c.self.invariant c.number.ensures.bound)
