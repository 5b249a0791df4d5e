use Rattle.fbl_channels.proofs.Starting.{ap, arith, length, at_drop_more, refl, sym, ◌∙◌, start_events, drop_of_length-le, IsOnce-none, none-shape, none-in, start-places, start-shape, start-sent}
use Rattle.fbl_channels.proofs.starts.send_starts.Goals as goal

pub loop-start-init : goal.loop-start-init
loop-start-init g c = let none = rw c.members.ensures.value at c.in_ok-channels.ensures in rw c.in_ok-trace.ensures.items (record { so_far = refl; made = c.in_ok-trace.ensures.len; room = omega (arith, c.in_ok-trace.ensures.exact, ap length c.starts.ensures, ap length c.starts-start-items.ensures); shape = none-shape _ _ none; sent = λ q p. none-in _ _ q p none })

pub count_sends-ssn-requires : goal.count_sends-ssn-requires
count_sends-ssn-requires g c = omega (arith, c.deref.ensures.len, c.loop-start.invariant.made, c.loop-start-test.true, ap length c.starts-start-items.ensures, c.members.ensures.rules.few_starts)

pub new-requires : goal.new-requires
new-requires g c = rw c.none.ensures IsOnce-none

pub send-requires : goal.send-requires
send-requires g c = let places = start-places c.members.ensures.rules c.starts-start-items.ensures c.loop-start-test.true c.start-item.is c.loop-start.invariant.shape in rw c.new.ensures (record { from = places.0; to = places.1 })

pub loop-start-preserved : goal.loop-start-preserved
loop-start-preserved g c =
    let so_far = c.loop-start.invariant in
    let starts = c.starts-start-items.result.now in
    let next = (rw (← c.start-item.is) at (at_drop_more (start_events c.loop-start.trace.items) starts c.loop-start.start-index c.start-item.result c.loop-start-test.true)) in
    let number = rw c.deref.ensures.value at c.count_sends-ssn.ensures.value in
    let put = rw (c.new.ensures, c.none.ensures) at c.in_ok-send.ensures in
    rw (c.push_reserved.ensures.items, number) (record {
      so_far = sym next ∙ so_far.so_far;
      made = omega (arith, c.push_reserved.ensures.len, so_far.made);
      room = omega (arith, c.push_reserved.ensures.capacity, so_far.room);
      shape = start-shape c.members.ensures.rules c.starts-start-items.ensures c.loop-start-test.true c.start-item.is so_far.shape _ put;
      sent = λ q p.
          start-sent c.members.ensures.rules c.starts-start-items.ensures c.loop-start-test.true c.start-item.is so_far.shape _ (rw number at put) q p
          c.loop-start.trace.items (so_far.sent q p);
    })

pub returns : goal.returns
returns g c = record {
  trace = rw (drop_of_length-le _ c.loop-start-test.false, c.starts-start-items.ensures) at c.loop-start.invariant.so_far;
  shape = c.loop-start.invariant.shape;
  channels = c.loop-start.invariant.sent;
}

pub push_reserved-requires : goal.push_reserved-requires
push_reserved-requires g c = omega (arith, c.loop-start.invariant.made, c.loop-start.invariant.room, c.loop-start-test.true)
