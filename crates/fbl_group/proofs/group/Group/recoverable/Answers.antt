use Rattle.fbl_group.proofs.Striking.{sound_is_recoverable}
use Rattle.fbl_group.proofs.group.Group.recoverable.Goals as goal

pub returns-clause-theorem : goal.returns-clause-theorem
returns-clause-theorem g c = sound_is_recoverable g.B.Behaviour.next c.args.self.now c.promises.ensures.sound
