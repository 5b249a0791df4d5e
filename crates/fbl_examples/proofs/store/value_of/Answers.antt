use Rattle.std.proofs.Common.{arith}
use Rattle.fbl_examples.proofs.store.value_of.Goals as goal

pub returns : goal.returns
returns c = omega (arith, c.look_up.ensures.most, c.requires)
