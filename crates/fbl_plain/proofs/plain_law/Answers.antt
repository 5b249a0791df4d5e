use Rattle.fbl_plain.proofs.PlainRuns.{each_looks_plain}
use Rattle.fbl_plain.proofs.plain_law.Goals as goal

pub returns : goal.returns
returns g c = each_looks_plain
