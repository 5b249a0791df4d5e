use Rattle.fbl_trace.proofs.Common.{bits_of-set_of}
use Rattle.fbl_trace.proofs.member_set.MemberSetPartialEq.eq.Goals as goal

pub returns : goal.returns
returns c =
    rw (← c.t1-1.view_is, ← c.t2-1.view_is, bits_of-set_of c.t1-1.inside.bits c.t1-1.invariant, bits_of-set_of c.t2-1.inside.bits c.t2-1.invariant) c.eq.ensures
