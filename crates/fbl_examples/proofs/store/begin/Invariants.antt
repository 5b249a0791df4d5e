use Rattle.std.proofs.Common.{◌≡◌}
use Rattle.fbl_behaviours.specs.Shards.{amount_brought}
use Rattle.fbl_examples.proofs.store.begin.Given as goal

abbrev pub invariant-loop-to : goal.invariant-loop-to
invariant-loop-to g l = amount_brought l.group.config ≡ 50
