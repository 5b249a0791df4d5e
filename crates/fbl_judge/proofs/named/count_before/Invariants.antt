-- none before depends on the receipt, and the one at the end does
use Rattle.fbl_judge.proofs.Common.{◌-◌, ◌<◌, ◌≤◌, ℕ, StandsAt, log_of, Position, Precedes, at, Dependence}
use Rattle.fbl_judge.proofs.named.count_before.Given as goal

abbrev pub invariant-loop-first : goal.invariant-loop-first
invariant-loop-first l = record {
  order : l.first ≤ l.end;
  within : l.end ≤ l.count;
  none : (i : Position) (k : ℕ) → StandsAt l.pasts.entries l.receipt i → k < l.first → ¬ (Precedes Dependence (log_of l.pasts.entries) i (at l.member k));
  some : (i : Position) → StandsAt l.pasts.entries l.receipt i → l.end < l.count → Precedes Dependence (log_of l.pasts.entries) i (at l.member l.end);
}

abbrev pub decreases-loop-first : goal.decreases-loop-first
decreases-loop-first l = l.end - l.first
