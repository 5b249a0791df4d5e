use Rattle.std.proofs.Common.{◌∙◌, sym}
use Rattle.fbl_history.proofs.Recording.{same_if, same_true}
use Rattle.fbl_history.proofs.record.columns.is_same.Goals as goal

pub returns : goal.returns
returns c = ((λ is. same_true _ _ (sym c.eq.ensures ∙ is)), (λ is. c.eq.ensures ∙ same_if _ _ is))
