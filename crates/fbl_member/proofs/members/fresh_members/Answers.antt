use Rattle.fbl_member.proofs.Common.{arith}
use Rattle.fbl_member.proofs.Made.{made-more, made_none}
use Rattle.fbl_member.proofs.members.fresh_members.Goals as goal

pub loop-number-init : goal.loop-number-init
loop-number-init g c = rw c.new-members.ensures.items (made_none _ _)

pub loop-number-preserved : goal.loop-number-preserved
loop-number-preserved g c =
    rw c.in_ok-push.ensures.items (made-more _ _ _ _ _ c.loop-number.invariant (rw (c.initial.ensures, c.at-member.ensures, c.members-n.ensures.value) at c.in_ok-fresh.ensures))

pub returns-clause-size : goal.returns-clause-size
returns-clause-size g c = omega (arith, c.loop-number.invariant.size, c.members-n.ensures.value)

pub returns-clause-fresh : goal.returns-clause-fresh
returns-clause-fresh g c m below = c.loop-number.invariant.each m (omega (arith, below, c.members-n.ensures.value))
