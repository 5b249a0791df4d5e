use Rattle.fbl_group.proofs.Common.{arith, after_notes-state, received_notes}
use Rattle.fbl_group.proofs.group.Group.state.Goals as goal

pub returns-clause-causes : goal.returns-clause-causes
returns-clause-causes g c up = let r = c.args.self.now in let me = c.args.member in grind (arith, (c.record.ensures.sound.folds me c.requires up).progress, after_notes-state g.B.Behaviour.next me r.config.members r.config.starts (received_notes r.trace me))
