use Rattle.fbl_program.proofs.Common.{Err, Ok, inl}
use Rattle.fbl_program.proofs.runs.end_run.Goals as goal

pub returns-in-Ok : goal.returns-in-Ok
returns-in-Ok g c = inl (Ok c.in-Ok.is_well, c.in-Ok.ensures, c.end.ensures)

pub returns-in-Err-Output : goal.returns-in-Err-Output
returns-in-Err-Output g c =
    inl (Err c.in-Err-Output.fault, rw (c.in-Err-Output.is, c.in-Err-Output.field-0-is) at c.do_run.ensures, c.end-in-Err-Output.ensures)
