use Rattle.fbl_group.proofs.group.Group.down.Goals as goal

pub returns-clause-within : goal.returns-clause-within
returns-clause-within g c = rw (← c.self.view_is) c.self.invariant.down
