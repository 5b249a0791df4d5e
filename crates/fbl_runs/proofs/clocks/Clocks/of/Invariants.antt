use Rattle.fbl_runs.specs.Precedence.{HasSeen}
use Rattle.fbl_runs.proofs.clocks.Clocks.of.Given as goal

abbrev pub invariant-loop-place : goal.invariant-loop-place
invariant-loop-place l = HasSeen l.fn.causality l.entries l.links l.place l.clocks
