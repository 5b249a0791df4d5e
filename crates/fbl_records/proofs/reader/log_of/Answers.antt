use Rattle.fbl_runs.specs.Logs.{parts_of_log}
use Rattle.fbl_records.proofs.Records.{log_refusal}
use Rattle.fbl_records.proofs.reader.log_of.Goals as goal

pub returns-in-Err-clause-fault : goal.returns-in-Err-clause-fault
returns-in-Err-clause-fault c = rw c.from.ensures (log_refusal (parts_of_log c.args.raw) c.in-Err.refusal c.in-Err.breach c.args.bytes c.in-Err.ensures.refused c.in-Err.ensures.breach)
