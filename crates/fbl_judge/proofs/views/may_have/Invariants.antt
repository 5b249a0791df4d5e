-- it may have it of the members so far
use Rattle.fbl_judge.proofs.Common.{ℕ, ◌<◌}
use Rattle.fbl_judge.specs.Views.{MayHaveOf}
use Rattle.fbl_judge.proofs.views.may_have.Given as goal

abbrev pub invariant-loop-number : goal.invariant-loop-number
invariant-loop-number l = (q : ℕ) → q < l.number → MayHaveOf l.view l.restart q
