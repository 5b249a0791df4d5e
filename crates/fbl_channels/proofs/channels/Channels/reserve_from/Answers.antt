use Rattle.fbl_channels.proofs.Queues.{arith}
use Rattle.fbl_channels.proofs.channels.Channels.reserve_from.Goals as goal

pub returns-clause-room : goal.returns-clause-room
returns-clause-room g c = λ k d below. c.loop-send.invariant.room k d (omega (arith, below, c.loop-send-test.false))

pub reserve-requires-in-loop-send : goal.reserve-requires-in-loop-send
reserve-requires-in-loop-send g c = record { from = rw c.loop-send.invariant.same c.requires.from; to = rw (c.loop-send.invariant.same, c.send-item.is) (c.requires.receivers c.loop-send.send-index c.send-item.result c.loop-send-test.true) }
