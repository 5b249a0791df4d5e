use Rattle.fbl_group.proofs.group.Group.resend_on.Goals as goal

pub put_again-requires : goal.put_again-requires
put_again-requires g c = rw (c.f.ensures, c.config.ensures, c.table.ensures, c.working-sender.ensures) c.requires.passed

pub returns : goal.returns
returns g c =
    let sent = rw (c.last_from-last.ensures, c.working-sender.ensures, c.working.ensures) at c.in_ok-unsent.ensures in
    let put = rw (c.f.ensures, c.config.ensures, c.table.ensures, c.working-sender.ensures) at c.put_again.ensures in
    record { passed = put.passed; made = rw (← (rw c.down.ensures.down at c.has_either.ensures), c.if-not-has_either.false) (rw (c.as_slice.ensures.value, sent) at put.made) }
