use Rattle.fbl_group.proofs.group.Group.sent.Goals as goal

pub returns : goal.returns
returns g c = rw c.record.ensures.value at c.sent.ensures.value
