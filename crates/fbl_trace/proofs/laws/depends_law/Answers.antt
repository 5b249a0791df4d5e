use Rattle.fbl_trace.proofs.PrecedenceLaws.{depends_push}
use Rattle.fbl_trace.proofs.laws.depends_law.Goals as goal

pub returns : goal.returns
returns c = depends_push
