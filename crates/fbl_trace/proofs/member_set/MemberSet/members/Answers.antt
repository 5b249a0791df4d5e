use Rattle.fbl_trace.proofs.Common.{◌≡◌, ◌+◌, ◌-◌, suc, arith, append_assoc, append-nil}
use Rattle.fbl_trace.proofs.member_set.MemberSet.members.Goals as goal

pub loop-number-preserved : goal.loop-number-preserved
loop-number-preserved c =
    let more : 16 - c.loop-number.number ≡ suc (16 - (c.loop-number.number + 1)) = omega arith in
    let so_far = (rw more at c.loop-number.invariant) in
    elim c.if-has.branch [ goal.then-has+in_ok-push w ↦ grind (arith, so_far, append_assoc) | goal.else-has w ↦ grind (arith, so_far) ]

pub returns : goal.returns
returns c = (let none : 16 - c.loop-number.number ≡ 0 = omega (arith, c.loop-number-test.false) in rw (none, append-nil) at c.loop-number.invariant)
