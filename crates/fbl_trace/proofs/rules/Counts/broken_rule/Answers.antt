use Rattle.fbl_trace.proofs.RulesLaws.{judged}
use Rattle.fbl_trace.proofs.rules.Counts.broken_rule.Goals as goal

pub returns-clause-verdict : goal.returns-clause-verdict
returns-clause-verdict c =
    judged c.args.n c.args.trace.now c.args.self.now c.requires.counted c.if-trace.false c.args.event.now c.first_in_flight-first.ensures.ends _ _
    c.next_number-next.ensures c.first_in_flight-first.ensures.first c.broken_rule.result c.broken_rule.ensures.fits
