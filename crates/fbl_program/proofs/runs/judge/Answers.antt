use Rattle.fbl_program.proofs.runs.judge.Goals as goal

pub returns-in_ok-run-in-Dump : goal.returns-in_ok-run-in-Dump
returns-in_ok-run-in-Dump g c = rw c.in-Dump.is (rw c.in_ok-run-in-Dump.ensures at c.judge_run.ensures)

pub returns-in-Log : goal.returns-in-Log
returns-in-Log g c = rw c.in-Log.is c.judge_run-in-Log.ensures
