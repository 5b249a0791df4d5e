use Rattle.fbl_table.proofs.entry.Entry.is_open.Goals as goal

pub returns : goal.returns
returns c = rw (c.from.ensures, c.count.ensures)
