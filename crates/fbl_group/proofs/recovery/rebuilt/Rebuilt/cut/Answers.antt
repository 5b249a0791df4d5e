use Rattle.fbl_group.proofs.Common.{rules, filter_same}
use Rattle.fbl_group.proofs.recovery.rebuilt.Rebuilt.cut.Goals as goal

pub returns : goal.returns
returns g c = filter_same _ _ _ (λ x b f' k. search rules) _ _ c.retain.ensures.filtered
