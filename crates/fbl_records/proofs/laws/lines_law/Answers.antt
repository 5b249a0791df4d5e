use Rattle.fbl_records.proofs.EventLines.{lines_found}
use Rattle.fbl_records.proofs.Records.{as_it_is}
use Rattle.fbl_records.proofs.laws.lines_law.Goals as goal

pub returns-clause-lines : goal.returns-clause-lines
returns-clause-lines c = lines_found

pub returns-clause-others : goal.returns-clause-others
returns-clause-others c = as_it_is
