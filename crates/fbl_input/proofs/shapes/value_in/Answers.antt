use Rattle.fbl_input.proofs.Common.{arith}
use Rattle.fbl_input.proofs.Lists.{short_value}
use Rattle.fbl_input.proofs.shapes.value_in.Goals as goal

pub returns : goal.returns
returns c = search (arith, short_value c.args.input.now (omega (arith, c.if-input-gt-LONGEST.false)))
