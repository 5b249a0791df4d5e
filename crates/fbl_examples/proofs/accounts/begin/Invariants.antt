use Rattle.std.proofs.Common.{◌≡◌}
use Rattle.std.specs.FinSet as set
use Rattle.fbl_behaviours.specs.Accounts.{opened}
use Rattle.fbl_examples.proofs.accounts.begin.Given as goal

abbrev pub invariant-loop-to : goal.invariant-loop-to
invariant-loop-to g l = record {
  opened : opened l.group.config ≡ 600;
  nobody : l.group.down ≡ set.empty;
}
