use Rattle.fbl_group.proofs.group.Group.kept.Goals as goal

pub returns : goal.returns
returns g c = c.kept_law.ensures c.args.self.now c.recoverable.ensures.sound
