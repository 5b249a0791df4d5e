use Rattle.fbl_trace.specs.Dumps.{parts_of}
use Rattle.fbl_records.proofs.Records.{dump_refusal}
use Rattle.fbl_records.proofs.reader.dump_of.Goals as goal

pub returns-in-Err-clause-fault : goal.returns-in-Err-clause-fault
returns-in-Err-clause-fault c = rw c.from.ensures (dump_refusal (parts_of c.args.raw) c.in-Err.refusal c.in-Err.breach c.args.bytes c.in-Err.ensures.refused c.in-Err.ensures.breach)
