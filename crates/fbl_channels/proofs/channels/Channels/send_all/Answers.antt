use Rattle.fbl_channels.proofs.Queues.{◌≡◌, ◌+◌, ◌-◌, ◌++◌, ◌∷◌, [], List, length, map, get_or, refl, sym, ap, ◌∙◌, arith, append-nil, append_assoc, into_iter_items, Event, Message, rows, rooms, with_sent, send_of_message, Sending, sending-more, found, within_row}
use Rattle.std.specs.VecDeque.{deque_len, deque_capacity}
use Rattle.std.proofs.lemmas.List.{nil_from_length}
use Rattle.fbl_channels.proofs.channels.Channels.send_all.Goals as goal

pub loop-wire-init : goal.loop-wire-init
loop-wire-init g c = rw c.into_iter-wire-iterator.ensures.into_iter_gives.0 (record {
  sending = record { from = c.requires.from; channels = refl; receivers = c.requires.receivers; fits = c.requires.room };
  trace = refl;
  trace_room = omega (arith, c.requires.trace, c.args.wires.ok.0);
})

pub returns : goal.returns
returns g c =
    let none : into_iter_items c.loop-wire.wire-iterator ≡ [] = nil_from_length _ (sym c.loop-wire.wire-iterator.rest.ok.0 ∙ c.in-None.ensures.steps.0) in
    record {
      channels = (rw none at c.loop-wire.invariant.sending).channels;
      trace = sym (append-nil _) ∙ ap (λ (vs : List (Message _)). c.loop-wire.trace.items ++ map send_of_message vs) (sym none) ∙ c.loop-wire.invariant.trace;
    }

pub index_mut-requires-in-loop-wire : goal.index_mut-requires-in-loop-wire
index_mut-requires-in-loop-wire g c =
    let so_far = (rw c.in-Some.ensures.steps.0 at c.loop-wire.invariant.sending) in
    let is_to = c.from-in-loop-wire.ensures ∙ c.number-in-loop-wire.ensures.value ∙ c.to.ensures in
    let within = within_row c.loop-wire.self (c.from.ensures ∙ c.number.ensures.value) is_to (so_far.from, so_far.receivers 0 c.in-Some.wire (omega arith)) c.index_mut.ensures.value in
    omega (arith, within, c.index_mut.result.now.ok.0)

pub push_back_reserved-requires : goal.push_back_reserved-requires
push_back_reserved-requires g c =
    let so_far = (rw c.in-Some.ensures.steps.0 at c.loop-wire.invariant.sending) in
    let channel = found c.loop-wire.self (c.from.ensures ∙ c.number.ensures.value) (c.from-in-loop-wire.ensures ∙ c.number-in-loop-wire.ensures.value ∙ c.to.ensures)
    (so_far.from, so_far.receivers 0 c.in-Some.wire (omega arith)) c.index_mut.ensures.value c.index_mut-in-loop-wire.ensures.value in
    omega (arith, so_far.fits 0 c.in-Some.wire (omega arith), channel.room)

pub loop-wire-preserved : goal.loop-wire-preserved
loop-wire-preserved g c =
    let w = c.in-Some.wire in
    let others = into_iter_items c.next.new.self in
    let rest : into_iter_items c.loop-wire.wire-iterator ≡ w ∷ others = c.in-Some.ensures.steps.0 in
    let so_far : Sending c.args.from (with_sent (rows c.args.self.now) c.args.from c.args.wires.items) (w ∷ others) (rows c.loop-wire.self) (rooms c.loop-wire.self) =
    (rw rest at c.loop-wire.invariant.sending) in
    let channel = found c.loop-wire.self (c.from.ensures ∙ c.number.ensures.value) (c.from-in-loop-wire.ensures ∙ c.number-in-loop-wire.ensures.value ∙ c.to.ensures)
    (so_far.from, so_far.receivers 0 w (omega arith)) c.index_mut.ensures.value c.index_mut-in-loop-wire.ensures.value in
    let left = deque_capacity c.push_back_reserved.new.self - deque_len c.push_back_reserved.new.self in
    let one_less : left + 1 ≡ get_or (get_or (rooms c.loop-wire.self) c.args.from []) w.to 0 =
    omega (arith, channel.room, so_far.fits 0 w (omega arith), c.push_back_reserved.ensures.len, c.push_back_reserved.ensures.capacity) in
    record {
      sending = rw (channel.changed c.push_back_reserved.new.self (c.push_back_reserved.ensures.items ∙ ap (λ vs. vs ++ w ∷ []) channel.messages), channel.room_set c.push_back_reserved.new.self)
          (sending-more left so_far channel.in_room one_less);
      trace =
          ap (λ (es : List (Event _)). es ++ map send_of_message others) (c.push_reserved.ensures.items ∙ ap (λ (e : Event _). c.loop-wire.trace.items ++ e ∷ []) c.sent_event.ensures)
          ∙ append_assoc c.loop-wire.trace.items (send_of_message w ∷ []) (map send_of_message others)
          ∙ ap (λ (vs : List (Message _)). c.loop-wire.trace.items ++ map send_of_message vs) (sym rest) ∙ c.loop-wire.invariant.trace;
      trace_room = (let enough = c.loop-wire.invariant.trace_room in omega (arith, enough, ap length rest, c.push_reserved.ensures.len, c.push_reserved.ensures.capacity));
    }

pub push_reserved-requires : goal.push_reserved-requires
push_reserved-requires g c = (let enough = c.loop-wire.invariant.trace_room in omega (arith, enough, ap length c.in-Some.ensures.steps.0))
