use Rattle.std.proofs.Common.{◌≡◌}
use Rattle.fbl_examples.proofs.election.begin.Given as goal

abbrev pub invariant-loop-to : goal.invariant-loop-to
invariant-loop-to g l = l.group.config ≡ l.fn.group.config
