use Rattle.fbl_group.proofs.group.Group.receipts_ever.Goals as goal

pub returns : goal.returns
returns g c = rw (← c.self.view_is)
