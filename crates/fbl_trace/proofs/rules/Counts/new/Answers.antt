use Rattle.fbl_trace.proofs.Common.{◌+◌, ◌*◌, ◌≡◌, [], arith, length, length-replicate, refl, replicate_more}
use Rattle.fbl_trace.proofs.Gets.{get_or-same}
use Rattle.fbl_trace.proofs.rules.Counts.new.Goals as goal

pub loop-preserved : goal.loop-preserved
loop-preserved c = rw (c.in_ok-push.ensures.items, c.loop.invariant, c.new.ensures) (replicate_more c.loop.counter [])

pub returns : goal.returns
returns c =
    let full : length c.loop.channels.items ≡ 256 = rw (c.loop.invariant, length-replicate) (omega (arith, c.loop-test.false, c.loop.auto.counter-end)) in
    record { sends = λ q b. get_or-same 16 q 0; receipts = λ p b. get_or-same 16 p 0; channels = λ q p b d. rw c.loop.invariant (get_or-same c.loop.counter (16 * q + p) []); sends_length = refl; receipts_length = refl; channels_length = full }
