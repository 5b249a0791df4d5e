use Rattle.fbl_judge.proofs.SafeAlways.{always_safe}
use Rattle.fbl_judge.proofs.laws.always_safe_law.Goals as goal

pub returns : goal.returns
returns c = always_safe
