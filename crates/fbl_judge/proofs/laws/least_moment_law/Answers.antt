use Rattle.fbl_judge.proofs.LeastMoments.{least_moment_law}
use Rattle.fbl_judge.proofs.laws.least_moment_law.Goals as goal

pub returns : goal.returns
returns c = least_moment_law
