use Rattle.fbl_group.proofs.group.Group.size.Goals as goal

pub returns-clause-value : goal.returns-clause-value
returns-clause-value g c = rw (← c.self.view_is) c.members.ensures.value
