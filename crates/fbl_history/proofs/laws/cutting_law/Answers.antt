use Rattle.fbl_history.proofs.Standing.{trace_once}
use Rattle.fbl_history.proofs.laws.cutting_law.Goals as goal

pub returns-clause-once : goal.returns-clause-once
returns-clause-once c = trace_once
