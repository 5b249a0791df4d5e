use Rattle.fbl_judge.proofs.NoOrphans.{safe_by_condition}
use Rattle.fbl_judge.proofs.laws.no_orphans_law.Goals as goal

pub returns : goal.returns
returns c = safe_by_condition
