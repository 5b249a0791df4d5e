use Rattle.fbl_records.proofs.EventLines.{behind_first_at, behind_none}
use Rattle.fbl_records.proofs.event_lines.behind_first.Goals as goal

pub returns-in-Some : goal.returns-in-Some
returns-in-Some c = behind_first_at c.args.byte c.args.text.now c.in-Some.place c.in-Some.ensures

pub returns-in-None : goal.returns-in-None
returns-in-None c = behind_none c.args.byte c.args.text.now c.in-None.ensures
