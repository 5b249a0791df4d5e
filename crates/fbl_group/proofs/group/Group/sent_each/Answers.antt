use Rattle.fbl_group.proofs.Common.{◌≡◌, ◌∙◌, arith, made-more, made_none}
use Rattle.fbl_group.proofs.group.Group.sent_each.Goals as goal

pub loop-number-preserved : goal.loop-number-preserved
loop-number-preserved g c = rw c.push.ensures.items (made-more _ _ _ _ _ c.loop-number.invariant (rw c.at.ensures at c.sent.ensures))

pub returns : goal.returns
returns g c = let all : c.loop-number.number ≡ c.args.self.now.config.members = omega (arith, c.loop-number-test.false, c.loop-number.auto.number-end, c.size-number-end.ensures.value) in record { size = c.loop-number.invariant.size ∙ all; each = λ m below. c.loop-number.invariant.each m (rw all below) }

pub loop-number-init : goal.loop-number-init
loop-number-init g c = rw c.new-sent.ensures (made_none _ _)
