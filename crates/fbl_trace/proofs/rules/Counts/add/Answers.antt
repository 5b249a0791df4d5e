use Rattle.std.proofs.lemmas.Result.{on_ok_weaker}
use Rattle.fbl_trace.proofs.RulesLaws.{counted_event}
use Rattle.fbl_trace.proofs.rules.Counts.add.Goals as goal

pub returns : goal.returns
returns c = on_ok_weaker _ (counted_event c.args.n c.args.trace.now c.args.self.now _ c.requires.members c.requires.rules c.requires.counted c.args.event.now c.requires.may) c.count.ensures
