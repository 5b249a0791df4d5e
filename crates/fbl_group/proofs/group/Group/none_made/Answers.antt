use Rattle.fbl_group.proofs.group.Group.none_made.Goals as goal

pub returns : goal.returns
returns g c = c.none_made_law.ensures c.args.self.now c.recoverable.ensures.sound
