use Rattle.fbl_history.proofs.Following.{past_send}
use Rattle.fbl_history.proofs.states.column_at.Goals as goal

pub returns-in-Send-clause-after : goal.returns-in-Send-clause-after
returns-in-Send-clause-after g c = past_send c.requires.before _ _ _ _ (rw c.in-Send.is at c.requires.here)
