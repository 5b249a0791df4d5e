use Rattle.fbl_program.proofs.Several.{told_fault}
use Rattle.fbl_program.proofs.jobs.recorded_at.Goals as goal

pub returns-clause-refused : goal.returns-clause-refused
returns-clause-refused g c = told_fault _ _ c.in-Err.fault c.refuse_input.result c.in_ok-reader.ensures.opened c.in-Err.ensures.fault c.refuse_input.ensures
