use Rattle.fbl_records.proofs.Records.{dump_recorded}
use Rattle.fbl_records.proofs.reader.recorded_in.Goals as goal

pub returns-in-Some-clause-parts : goal.returns-in-Some-clause-parts
returns-in-Some-clause-parts c = dump_recorded c.args.input.items c.in-Some.raw c.requires (rw (c.in-Some.is, c.as_slice.ensures.value) at c.in-Ok.ensures)
