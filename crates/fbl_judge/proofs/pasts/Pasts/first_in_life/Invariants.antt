-- no entry before the first one depends on the receipt, and the end does, if it is one
use Rattle.fbl_judge.proofs.Common.{Dependence, ℕ, ◌<◌, ◌≤◌, ◌-◌, log_of, at, Position, Precedes}
use Rattle.fbl_runs.specs.Clocks.{StandsAt}
use Rattle.fbl_judge.proofs.pasts.Pasts.first_in_life.Given as goal

abbrev pub invariant-loop-first : goal.invariant-loop-first
invariant-loop-first l = record {
  after : l.start ≤ l.first;
  within : (l.first ≤ l.top) × (l.end ≤ l.top) × (l.first ≤ l.end);
  none : (i : Position) → StandsAt l.self.entries l.receipt i → (k : ℕ) → l.start ≤ k → k < l.first → ¬ (Precedes Dependence (log_of l.self.entries) i (at l.member k));
  some : (i : Position) → StandsAt l.self.entries l.receipt i → l.end < l.top → Precedes Dependence (log_of l.self.entries) i (at l.member l.end);
}

abbrev pub decreases-loop-first : goal.decreases-loop-first
decreases-loop-first l = l.end - l.first
