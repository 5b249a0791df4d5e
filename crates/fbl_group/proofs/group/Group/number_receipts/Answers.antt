use Rattle.fbl_group.proofs.Recovering.{◌∙◌, made-more, made_none, all-done}
use Rattle.fbl_group.proofs.group.Group.number_receipts.Goals as goal

pub loop-number-init : goal.loop-number-init
loop-number-init g c = rw c.requires.empty (made_none _ _)

pub loop-number-preserved : goal.loop-number-preserved
loop-number-preserved g c = rw c.in_ok-push.ensures.items (made-more _ _ _ _ _ c.loop-number.invariant (rw c.at-member.ensures at c.in_ok-number_receipts_of.ensures))

pub returns : goal.returns
returns g c = let made = c.loop-number.invariant in let all = all-done c.loop-number-test.false c.loop-number.auto.number-end c.size-number-end.ensures.value in record { size = made.size ∙ all; each = λ p below down. rw c.requires.gathered at (made.each p (rw all below) down) }
