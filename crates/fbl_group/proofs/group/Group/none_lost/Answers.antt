use Rattle.fbl_group.proofs.group.Group.none_lost.Goals as goal

pub returns : goal.returns
returns g c = c.none_lost_law.ensures c.args.self.now c.recoverable.ensures.sound
