use Rattle.fbl_group.proofs.group.Group.upheld.Goals as goal

pub returns : goal.returns
returns g c = c.upheld_law.ensures c.args.self.now c.recoverable.ensures.sound
