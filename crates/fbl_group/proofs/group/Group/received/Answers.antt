use Rattle.fbl_group.proofs.group.Group.received.Goals as goal

pub returns : goal.returns
returns g c = rw c.record.ensures.value at c.received.ensures.value
