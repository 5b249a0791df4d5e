-- a path leads from the place, which depends on the receipt, to the end
use Rattle.std.proofs.Common.{reverse}
use Rattle.fbl_judge.specs.Paths.{IsDependentOn, IsPath}
use Rattle.fbl_judge.proofs.paths.path_to.Given as goal

abbrev pub invariant-loop-before : goal.invariant-loop-before
invariant-loop-before l = record {
  path : IsPath l.pasts.entries l.place l.end (reverse l.path.items);
  depends : IsDependentOn l.pasts.entries l.receipt l.place;
}

abbrev pub decreases-loop-before : goal.decreases-loop-before
decreases-loop-before l = l.place
