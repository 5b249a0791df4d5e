use Rattle.fbl_group.proofs.Striking.{within-tested}
use Rattle.fbl_group.proofs.strike.are_within.Goals as goal

pub returns : goal.returns
returns c = within-tested c.args.set c.args.n c.within.result c.within.ensures
