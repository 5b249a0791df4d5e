use Rattle.fbl_channels.proofs.Common.{arith}
use Rattle.fbl_channels.proofs.channels.sum_channel.Goals as goal

pub returns-clause-bound : goal.returns-clause-bound
returns-clause-bound c = omega (arith, c.loop-place.invariant.bound, c.loop-place.auto.place-end, c.len-place-end.ensures, c.requires)
