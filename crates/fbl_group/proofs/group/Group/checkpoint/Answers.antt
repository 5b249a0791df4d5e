use Rattle.fbl_group.proofs.Common.{arith, nat_tests}
use Rattle.fbl_group.proofs.group.Group.checkpoint.Goals as goal

pub save-requires : goal.save-requires
save-requires g c = record { below = rw (c.number.ensures.value, c.size.ensures.value) at c.if-number-size.false; nobody_down = rw (c.count.ensures, c.down.ensures.down) at c.if-count-ne0.false }

pub returns-clause-taken : goal.returns-clause-taken
returns-clause-taken g c = (grind (arith, nat_tests), c.in-Ok.ensures.saved)

pub returns-clause-fold : goal.returns-clause-fold
returns-clause-fold g c = c.recoverable.ensures.sound.saved c.args.member (rw c.in-Ok.ensures.saved.saved c.in-Ok.ensures.saved.below)
