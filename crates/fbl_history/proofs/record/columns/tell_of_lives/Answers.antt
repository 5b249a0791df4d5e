use Rattle.std.proofs.Common.{rules}
use Rattle.std.proofs.lemmas.Fn.{filter_same}
use Rattle.fbl_history.proofs.record.columns.tell_of_lives.Goals as goal

pub returns-clause-untold : goal.returns-clause-untold
returns-clause-untold c = filter_same _ _ _ (λ x b f' k. search rules) _ _ c.retain.ensures.filtered
