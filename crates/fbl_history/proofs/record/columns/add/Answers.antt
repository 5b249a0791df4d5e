use Rattle.fbl_history.proofs.record.columns.add.Goals as goal

pub returns-in-Receipt-clause-refused : goal.returns-in-Receipt-clause-refused
returns-in-Receipt-clause-refused g c = rw c.in-Receipt.is c.receive.ensures.refused
