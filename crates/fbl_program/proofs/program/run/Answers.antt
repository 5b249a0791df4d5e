use Rattle.fbl_program.proofs.Common.{inl}
use Rattle.fbl_program.proofs.program.run.Goals as goal

pub returns-in-Ok-job_of-clause-done : goal.returns-in-Ok-job_of-clause-done
returns-in-Ok-job_of-clause-done g c =
    rw c.in-Ok.is (inl (c.in-Ok-job_of.job, rw c.as_slice.ensures.value at c.in-Ok-job_of.ensures.given, c.do_job-status.ensures))
