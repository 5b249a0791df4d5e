use Rattle.fbl_law.proofs.OneRecovery.{recovery_exists, recovery_is_one}
use Rattle.fbl_law.proofs.laws.one_recovery_law.Goals as goal

pub returns : goal.returns
returns g c = record { exists = recovery_exists _ _; only = recovery_is_one _ _ }
