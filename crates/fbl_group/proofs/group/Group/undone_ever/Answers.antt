use Rattle.fbl_group.proofs.group.Group.undone_ever.Goals as goal

pub returns : goal.returns
returns g c = rw (← c.self.view_is)
