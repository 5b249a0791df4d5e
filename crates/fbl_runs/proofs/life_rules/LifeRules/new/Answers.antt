use Rattle.fbl_runs.proofs.Common.{arith, refl}
use Rattle.fbl_runs.proofs.life_rules.LifeRules.new.Goals as goal

pub returns : goal.returns
returns c = record { lived = c.in_ok-new.ensures; told = c.new-2.ensures; count = refl; few = omega arith }
