use Rattle.fbl_group.proofs.group.Group.conserved.Goals as goal

pub returns : goal.returns
returns g c = c.conserved_law.ensures c.args.self.now c.recoverable.ensures.sound
