use Rattle.fbl_group.proofs.group.Group.lost_receipts.Goals as goal

pub returns : goal.returns
returns g c = rw (← c.self.view_is) (rw (c.deref.ensures.value, c.deref-2.ensures.value, c.deref-3.ensures.value) at c.lost_among.ensures)
