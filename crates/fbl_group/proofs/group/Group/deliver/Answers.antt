use Rattle.fbl_group.proofs.Common.{arith}
use Rattle.fbl_group.proofs.Delivering as deciding
use Rattle.fbl_group.proofs.group.Group.deliver.Goals as goal

pub returns-in-Ok-clause-delivered : goal.returns-in-Ok-clause-delivered
returns-in-Ok-clause-delivered g c =
    deciding.delivers g.B.Behaviour.next c.args.self.now c.args.to c.args.from c.in_ok-ticket.ticket c.in_ok-ticket.ensures.taken c.in_ok-ticket.ensures.ends c.run_step.result.ticket c.run_step.ensures.ticket _ _ c.in-Ok.ensures.delivered

pub returns-in-Err-clause-refused : goal.returns-in-Err-clause-refused
returns-in-Err-clause-refused g c =
    let answered = deciding.commit_refused g.B.Behaviour.next c.args.self.now c.args.to c.args.from c.in_ok-ticket.ticket c.in_ok-ticket.ensures.taken
    c.in_ok-ticket.ensures.ends c.run_step.result.ticket c.run_step.ensures.ticket c.in-Err.refusal c.in-Err.ensures.refused in
    rw c.of_commit.ensures answered

pub returns-in_err-ticket-clause-refused : goal.returns-in_err-ticket-clause-refused
returns-in_err-ticket-clause-refused g c = grind (arith, c.from_residual.ensures, c.in_err-ticket.ensures.refused)
