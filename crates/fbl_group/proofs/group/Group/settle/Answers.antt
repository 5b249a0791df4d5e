use Rattle.std.proofs.Common.{◌<◌, ◌≡◌, length, vec_len, arith, rules, refl, ap, subst, ◌∙◌, Option, Some, None, IfNone, IsSome}
use Rattle.fbl_group.proofs.Queues.{room_in, IsSound, group_delivery_keeps, length-messages, made-fits}
use Rattle.fbl_group.proofs.Delivering as planning
use Rattle.fbl_group.proofs.group.Group.settle.Goals as goal

pub reserve_from-requires : goal.reserve_from-requires
reserve_from-requires g c = record {
  from = rw c.self.invariant.shape.senders (rw (← c.self.view_is) at c.requires.to_member);
  receivers = planning.receivers_in g.met.B.Behaviour.laws.sends c.self.invariant c.self.view_is c.requires refl c.as_slice-sends.ensures.value;
}

pub front-requires : goal.front-requires
front-requires g c = record {
  from = rw (c.reserve_from.ensures.same, c.self.invariant.shape.senders) (rw (← c.self.view_is) at c.requires.from_member);
  to = rw c.reserve_from.ensures.same (rw (← c.self.view_is) at c.requires.channel);
}

pub invariant_of-self : goal.invariant_of-self
invariant_of-self g c = rw (c.reserve_from.ensures.same, c.reserve_from.ensures.trace) c.self.invariant

pub returns-in_default-clause-unchanged : goal.returns-in_default-clause-unchanged
returns-in_default-clause-unchanged g c = (rw (c.reserve_from.ensures.same, c.reserve_from.ensures.trace) c.self.view_is)

is_some_if : {X P : Type 0} (o : Option X) → ¬ P → IfNone o P → IsSome o
is_some_if None never h = absurd (never h)
is_some_if (Some x) never h = search rules

pub unwrap-wire-requires : goal.unwrap-wire-requires
unwrap-wire-requires g c = is_some_if c.front.result (planning.not_empty g.met.B.Behaviour.laws.sends c.self.invariant c.self.view_is c.requires c.reserve_from.ensures.same) c.front.ensures.none

pub overflow_cast-carried : goal.overflow_cast-carried
overflow_cast-carried g c = planning.few_carried g.met.B.Behaviour.laws.sends c.self.invariant c.self.view_is c.requires c.reserve_from.ensures.same (rw c.unwrap-wire.ensures at c.front.ensures.some) c.carried.ensures.value c.carried.ensures.once

pub take_in-requires : goal.take_in-requires
take_in-requires g c =
    let place : c.args.done.now.ticket.to < vec_len c.self.inside.members = rw (c.self.inside.members.ok.0, c.self.invariant.members) (rw (← c.self.view_is) at c.requires.to_member) in
    let may = planning.may_take_in g.met.B.Behaviour.laws.sends c.self.invariant c.self.view_is c.requires c.reserve_from.ensures.same
    (rw c.unwrap-wire.ensures at c.front.ensures.some) refl c.members-n.ensures.value in
    (search rules, (place, may))

pub invariant_of-self-in_default-take_in : goal.invariant_of-self-in_default-take_in
invariant_of-self-in_default-take_in g c = rw (c.reserve_from.ensures.same, c.in_default-take_in.ensures.unchanged, c.reserve_from.ensures.trace) c.self.invariant

pub returns-in_default-take_in-clause-unchanged : goal.returns-in_default-take_in-clause-unchanged
returns-in_default-take_in-clause-unchanged g c = (rw (c.reserve_from.ensures.same, c.in_default-take_in.ensures.unchanged, c.reserve_from.ensures.trace) c.self.view_is)

pub take_and_send-requires : goal.take_and_send-requires
take_and_send-requires g c =
    let count : length c.in-Ok-take_in.made.items ≡ length c.args.done.now.outcome.sends.items = ap length c.in-Ok-take_in.ensures.taken.sent ∙ length-messages _ _ _ c.args.done.now.outcome.sends.items in
    let given : length c.as_slice-sends.result.now ≡ length c.args.done.now.outcome.sends.items = ap length c.as_slice-sends.ensures.value in
    record {
      from = rw (c.reserve_from.ensures.same, c.self.invariant.shape.senders) (rw (← c.self.view_is) at c.requires.from_member);
      to = rw (c.reserve_from.ensures.same, c.self.invariant.shape.senders) (rw (← c.self.view_is) at c.requires.to_member);
      channel = rw c.reserve_from.ensures.same (rw (← c.self.view_is) at c.requires.channel);
      apart = c.requires.apart;
      receivers = planning.sent_in g.met.B.Behaviour.laws.sends c.self.invariant c.self.view_is c.requires c.reserve_from.ensures.same _ _ c.in-Ok-take_in.ensures.taken.sent;
      room =
          made-fits (λ k. room_in c.reserve_from.new.self c.args.done.now.ticket.to k) c.args.done.now.ticket.to _ _
          c.as_slice-sends.ensures.value c.in-Ok-take_in.ensures.taken.sent c.in-Ok.ensures.room;
      trace = omega (arith, c.in-Ok-take_in.made.ok.0, count, given, c.push_reserved.ensures.len, c.push_reserved.ensures.capacity, c.in-Ok.ensures.trace_room);
    }

pub overflow_add-self : goal.overflow_add-self
overflow_add-self g c = let room = planning.room g.met.B.Behaviour.laws.sends c.self.invariant c.self.view_is c.requires in omega (arith, room.1, c.self.ranges.1.1.1.1.1.1.0.1)

pub returns-clause-delivered : goal.returns-clause-delivered
returns-clause-delivered g c =
    planning.is_delivered g.met.B.Behaviour.laws.sends c.self.invariant c.self.view_is c.requires c.reserve_from.ensures.same
    (rw c.unwrap-wire.ensures at c.front.ensures.some) refl c.in-Ok-take_in.ensures.taken c.f-f.ensures c.ssn-ssn.ensures
    c.reserve_from.ensures.trace c.push_reserved.ensures.items c.take_and_send.ensures.trace c.take_and_send.ensures.channels c.carried.ensures.value

pub invariant_of-self-2 : goal.invariant_of-self-2
invariant_of-self-2 g c = group_delivery_keeps g.B.Behaviour.next _ _ _ g.met.B.Behaviour.laws.sends (returns-clause-delivered g c).delivery (subst (IsSound g.B.Behaviour.next) c.self.view_is c.self.invariant)
