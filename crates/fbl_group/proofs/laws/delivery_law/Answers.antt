use Rattle.fbl_group.proofs.Queues.{some_delivery_is_open}
use Rattle.fbl_group.proofs.laws.delivery_law.Goals as goal

pub returns : goal.returns
returns g c = some_delivery_is_open
