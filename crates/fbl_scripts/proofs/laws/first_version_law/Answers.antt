use Rattle.fbl_scripts.proofs.Versions.{first_version, not_second}
use Rattle.fbl_scripts.proofs.laws.first_version_law.Goals as goal

pub returns-clause-first : goal.returns-clause-first
returns-clause-first c = first_version

pub returns-clause-other : goal.returns-clause-other
returns-clause-other c = not_second
