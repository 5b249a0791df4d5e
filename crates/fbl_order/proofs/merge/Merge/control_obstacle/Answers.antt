use Rattle.fbl_order.proofs.Common.{placed_of}
use Rattle.fbl_order.proofs.Obstacles.{told_passes}
use Rattle.fbl_order.proofs.merge.Merge.control_obstacle.Goals as goal

pub returns-in_default-sending-clause-hinders : goal.returns-in_default-sending-clause-hinders
returns-in_default-sending-clause-hinders c n broken =
    let passes = (told_passes n (placed_of c.args.entries.now c.args.self.now) c.args.entry.now (rw c.in-NotTold.is at broken)).1 in
    absurd (c.in_default-sending.ensures passes.0 passes.1)

pub returns-clause-hinders : goal.returns-clause-hinders
returns-clause-hinders c n broken =
    let lacks = (told_passes n (placed_of c.args.entries.now c.args.self.now) c.args.entry.now (rw c.in-NotTold.is at broken)).0 in
    c.missing.ensures.hinders n c.args.entry.now (lacks, c.in-Some.ensures)
