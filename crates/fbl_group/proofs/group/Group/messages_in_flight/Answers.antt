use Rattle.fbl_group.proofs.Reading.{arith, refl, channel_fits}
use Rattle.fbl_group.proofs.group.Group.messages_in_flight.Goals as goal

pub messages-requires : goal.messages-requires
messages-requires g c = record {
  shape = rw c.members.ensures.value c.self.invariant.shape;
  few = λ q p below_q below_p. channel_fits g.B.Behaviour.next _ c.self.invariant q p;
  members = omega (arith, c.members.ensures.value, c.self.invariant.config.members.1);
}

pub returns-else-count-eq0 : goal.returns-else-count-eq0
returns-else-count-eq0 g c = rw (← c.self.view_is, c.messages.ensures.messages, c.members.ensures.value) refl

pub returns-then-count-eq0 : goal.returns-then-count-eq0
returns-then-count-eq0 g c = c.unreceived.ensures (rw (c.count.ensures, c.down.ensures.down) at c.if-count-eq0.true)
