use Rattle.fbl_channels.proofs.Queues.{◌≡◌, ◌||◌, inr, refl, ap, ◌∙◌, arith, deque_items, found, in-channels, replacing-kept, replacing-other, within_row, contains}
use Rattle.fbl_channels.proofs.channels.Channels.replace.Goals as goal

pub index_mut-requires-then-has_either : goal.index_mut-requires-then-has_either
index_mut-requires-then-has_either g c =
    let places = in-channels c.loop-receiver.invariant.replaced.shape c.loop-sender-test.true c.loop-receiver-test.true in
    omega (arith, within_row c.loop-receiver.self c.from.ensures c.from-then-has_either.ensures places c.index_mut.ensures.value, c.index_mut.result.now.ok.0)

pub index_mut-requires-then-has_either-3 : goal.index_mut-requires-then-has_either-3
index_mut-requires-then-has_either-3 g c =
    let places = in-channels c.loop-receiver.invariant.left.shape c.loop-sender-test.true c.loop-receiver-test.true in
    let within = within_row c.loop-receiver.again c.from-then-has_either-2.ensures c.from-then-has_either-3.ensures places c.index_mut-then-has_either-2.ensures.value in
    omega (arith, within, c.index_mut-then-has_either-2.result.now.ok.0)

pub loop-receiver-preserved : goal.loop-receiver-preserved
loop-receiver-preserved g c =
    let q = c.loop-sender.sender in
    let p = c.loop-receiver.receiver in
    let below_q = c.loop-sender-test.true in
    let below_p = c.loop-receiver-test.true in
    let ours = c.loop-receiver.invariant.replaced in
    let theirs = c.loop-receiver.invariant.left in
    let asked : c.has_either.result ≡ (contains c.args.down q || contains c.args.down p) = cc in
    elim c.if-has_either.branch [
      | goal.then-has_either w ↦
          let channel = found c.loop-receiver.self w.from.ensures w.from-then-has_either.ensures (in-channels ours.shape below_q below_p)
          w.index_mut.ensures.value w.index_mut-then-has_either.ensures.value in
          let other = found c.loop-receiver.again w.from-then-has_either-2.ensures w.from-then-has_either-3.ensures (in-channels theirs.shape below_q below_p)
          w.index_mut-then-has_either-2.ensures.value w.index_mut-then-has_either-3.ensures.value in
          let taken = ap (λ d. deque_items d) w.swap.ensures.x_after ∙ other.messages ∙ theirs.rest q p (inr (refl, omega arith)) in
          let given = ap (λ d. deque_items d) w.swap.ensures.y_after ∙ channel.messages ∙ ours.rest q p (inr (refl, omega arith)) in
          rw (w.self-is, w.again-is, channel.changed w.swap.new.x taken, other.changed w.swap.new.y given) (record {
            replaced = replacing-other ours below_q below_p asked w.if-has_either.true refl;
            left = replacing-other theirs below_q below_p asked w.if-has_either.true refl;
          })
      | goal.else-has_either w ↦
          rw (w.self-is, w.again-is) (record {
            replaced = replacing-kept ours below_q below_p asked w.if-has_either.false;
            left = replacing-kept theirs below_q below_p asked w.if-has_either.false;
          })
    ]

pub loop-receiver-init : goal.loop-receiver-init
loop-receiver-init g c = c.loop-sender.invariant
