use Rattle.fbl_turns.proofs.counted_group.CountedGroup.close.Goals as goal

pub returns-clause-reached : goal.returns-clause-reached
returns-clause-reached g c = c.args.self.reached
