use Rattle.fbl_group.proofs.Common.{arith, checkpoint_is_recorded}
use Rattle.fbl_group.proofs.group.Group.checkpoint_received.Goals as goal

pub returns : goal.returns
returns g c = record {
  value = rw c.checkpoint_of.ensures at c.received.ensures.value;
  fold = c.recoverable.ensures.sound.saved c.args.member c.requires;
  recorded = λ d there to below. (checkpoint_is_recorded _ _ g.B.Behaviour.next c.args.self.now c.args.member c.recoverable.ensures.sound c.requires).1 d there to (grind arith);
}
