use Rattle.fbl_runs.specs.Clocks.{cut_of}
use Rattle.fbl_runs.proofs.clocks.Clocks.join_predecessor.Goals as goal

pub returns : goal.returns
returns c entries p are has below = (cut_of c.predecessor_clock.result, c.predecessor_clock.ensures entries p are has below, c.join.ensures)
