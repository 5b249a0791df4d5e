use Rattle.fbl_records.proofs.EventLines.{before_last_at, before_none}
use Rattle.fbl_records.proofs.event_lines.before_last.Goals as goal

pub returns-in-Some : goal.returns-in-Some
returns-in-Some c = before_last_at c.args.byte c.args.text.now c.in-Some.place c.in-Some.ensures

pub returns-in-None : goal.returns-in-None
returns-in-None c = before_none c.args.byte c.args.text.now c.in-None.ensures
