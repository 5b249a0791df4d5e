use Rattle.fbl_group.proofs.Striking.{strikes_are_one}
use Rattle.fbl_group.proofs.laws.strikes_law.Goals as goal

pub returns : goal.returns
returns g c = strikes_are_one
