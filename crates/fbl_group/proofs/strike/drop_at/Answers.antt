use Rattle.fbl_group.proofs.Common.{◌≡◌, ◌||◌, refl, contains, in-channels, replacing-kept, replacing-other}
use Rattle.fbl_group.proofs.strike.drop_at.Goals as goal

pub clear-requires : goal.clear-requires
clear-requires g c =
    let places = in-channels c.loop-receiver.invariant.shape c.loop-sender-test.true c.loop-receiver-test.true in
    rw (c.at-from.ensures, c.at-to.ensures) (record { from = places.0; to = places.1 })

pub loop-receiver-preserved : goal.loop-receiver-preserved
loop-receiver-preserved g c =
    let so_far = c.loop-receiver.invariant in
    let asked : c.has_either.result ≡ (contains c.args.set c.loop-sender.sender || contains c.args.set c.loop-receiver.receiver) = cc in
    elim c.if-has_either.branch [
      | goal.then-has_either w ↦ rw (w.channels-is, w.clear.ensures, c.at-from.ensures, c.at-to.ensures) (replacing-other so_far c.loop-sender-test.true c.loop-receiver-test.true asked w.if-has_either.true refl)
      | goal.else-has_either w ↦ rw w.channels-is (replacing-kept so_far c.loop-sender-test.true c.loop-receiver-test.true asked w.if-has_either.false)
    ]
