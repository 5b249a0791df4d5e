use Rattle.fbl_trace.proofs.LawfulLaws.{lawful_deliver}
use Rattle.fbl_trace.proofs.laws.lawful_delivery_law.Goals as goal

pub returns : goal.returns
returns g c = lawful_deliver
