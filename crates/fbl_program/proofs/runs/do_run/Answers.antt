use Rattle.fbl_program.proofs.Common.{◌≡◌, ◌∙◌, IsAnswer, IsPlaceMissingOf, Merge, refl, true}
use Rattle.fbl_program.proofs.Endings.{cut_answer}
use Rattle.fbl_program.proofs.runs.do_run.Goals as goal

pub returns-in_err-write_line-in-Merge : goal.returns-in_err-write_line-in-Merge
returns-in_err-write_line-in-Merge g c =
    rw c.in-Merge.is (cut_answer (λ _ told. told ≡ c.as_str.result.now) (IsAnswer Merge c.args.found.now c.args.sources.now) (IsPlaceMissingOf Merge c.args.found.now c.args.sources.now) (λ _. true)
    (λ _ _ is. (is ∙ c.as_str.ensures.value ∙ c.in_ok-line-in-Merge.ensures, refl)) _ _ _ _
    c.from_residual-in_err-write_line-in-Merge.ensures.1 c.in_err-write_line-in-Merge.ensures)

pub returns-in-Judge : goal.returns-in-Judge
returns-in-Judge g c = rw c.in-Judge.is c.judge.ensures
