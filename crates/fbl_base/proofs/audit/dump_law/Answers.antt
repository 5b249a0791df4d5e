use Rattle.fbl_base.proofs.DumpRuns.{dump_law}
use Rattle.fbl_base.proofs.audit.dump_law.Goals as goal

pub returns : goal.returns
returns c = dump_law
