use Rattle.fbl_law.proofs.Runs.{held_by_more_stays, strike_is_one, strikes_join}
use Rattle.fbl_law.proofs.laws.strike_law.Goals as goal

pub returns : goal.returns
returns g c = record { joined = strikes_join _ _; only = strike_is_one _ _; held = held_by_more_stays _ _ }
