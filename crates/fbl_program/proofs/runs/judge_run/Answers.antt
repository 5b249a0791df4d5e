use Rattle.fbl_program.proofs.runs.judge_run.Goals as goal

pub returns : goal.returns
returns g c = rw c.in_ok-pasts.ensures at c.answer.ensures
