use Rattle.fbl_runs.proofs.Common.{ℕ, Option, ◌∙◌, subst, sym}
use Rattle.fbl_runs.specs.Receipts.{IsFirstReceipt}
use Rattle.fbl_runs.proofs.receipts.ReceiptPlaces.first.Goals as goal

pub returns : goal.returns
returns c entries are = subst (λ (o : Option ℕ). IsFirstReceipt entries c.args.determinant.now o) (sym (c.copied.ensures ∙ c.get.ensures.value)) (are c.args.determinant.now)
