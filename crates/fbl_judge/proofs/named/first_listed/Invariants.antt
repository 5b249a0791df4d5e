use Rattle.fbl_judge.proofs.Common.{◌<◌, ℕ, StandsAt, cut_of, log_of, Position, at}
use Rattle.fbl_judge.specs.Dependents.{IsDependent}
use Rattle.fbl_judge.proofs.named.first_listed.Given as goal

abbrev pub invariant-loop-number : goal.invariant-loop-number
invariant-loop-number l = (i : Position) (k : ℕ) → StandsAt l.pasts.entries l.receipt i → k < l.number → ¬ (IsDependent (log_of l.pasts.entries) i (cut_of l.moment) (at l.member k))
