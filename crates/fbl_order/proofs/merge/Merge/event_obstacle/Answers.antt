use Rattle.fbl_order.proofs.Common.{marks, placed_of}
use Rattle.fbl_order.proofs.Obstacles.{lacks_in_trace, receipt_passes}
use Rattle.fbl_order.proofs.merge.Merge.event_obstacle.Goals as goal

pub returns-in_default-sending-clause-hinders : goal.returns-in_default-sending-clause-hinders
returns-in_default-sending-clause-hinders c n given =
    let found = c.in-NothingInFlight in
    let passes = receipt_passes n (marks (placed_of c.args.entries.now c.args.self.now)) c.args.entry.now given.0 found.from found.to given.1 (rw found.is at given.2) in
    absurd (c.in_default-sending.ensures passes.0 passes.1)

pub returns-clause-hinders : goal.returns-clause-hinders
returns-clause-hinders c n given =
    let found = c.in-NothingInFlight in
    let lacks = lacks_in_trace n (placed_of c.args.entries.now c.args.self.now) c.args.entry.now given.0 found.from found.to given.1 (rw found.is at given.2) in
    c.missing.ensures.hinders n c.args.entry.now (lacks, c.in-Some.ensures)
