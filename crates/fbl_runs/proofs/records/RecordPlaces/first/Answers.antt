use Rattle.fbl_runs.proofs.Common.{ℕ, Option, ◌∙◌, subst, sym}
use Rattle.fbl_runs.specs.Records.{IsNextRecord}
use Rattle.fbl_runs.proofs.records.RecordPlaces.first.Goals as goal

pub returns : goal.returns
returns c entries are = subst (λ (o : Option ℕ). IsNextRecord entries c.args.determinant.now 0 o) (sym (c.copied.ensures ∙ c.get.ensures.value)) (are.first c.args.determinant.now)
