use Rattle.fbl_group.proofs.group.Group.replay.Goals as goal

pub returns-clause-ready : goal.returns-clause-ready
returns-clause-ready g c = c.in_ok-rebuilt.ensures
