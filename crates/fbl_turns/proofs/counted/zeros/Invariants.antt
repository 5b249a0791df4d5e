use Rattle.fbl_turns.proofs.Common.{◌≡◌, replicate}
use Rattle.fbl_turns.proofs.counted.zeros.Given as goal

abbrev pub invariant-loop-worker : goal.invariant-loop-worker
invariant-loop-worker l = l.counts.items ≡ replicate l._worker 0
