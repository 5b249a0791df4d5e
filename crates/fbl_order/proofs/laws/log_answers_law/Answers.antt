use Rattle.fbl_order.proofs.EntryLaws.{log_answers}
use Rattle.fbl_order.proofs.laws.log_answers_law.Goals as goal

pub returns : goal.returns
returns c = log_answers
