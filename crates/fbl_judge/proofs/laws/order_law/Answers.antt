use Rattle.fbl_judge.proofs.OrderLaws.{order_law}
use Rattle.fbl_judge.proofs.laws.order_law.Goals as goal

pub returns : goal.returns
returns c = order_law
