-- those before did not happen after the entry, and those from the end on did
use Rattle.fbl_verdicts.proofs.Common.{ℕ, ◌-◌, ◌<◌, ◌≤◌, length}
use Rattle.fbl_runs.specs.declared.causality.Causality.TheVariants.{HappenedBefore}
use Rattle.fbl_runs.specs.Clocks.{StandsAt}
use Rattle.fbl_runs.specs.Entries.{log_of}
use Rattle.fbl_runs.specs.HappenedBefore.{Position, Precedes, at}
use Rattle.fbl_verdicts.proofs.undone_text.count_beside.Given as goal

abbrev pub invariant-loop-first : goal.invariant-loop-first
invariant-loop-first l = record {
  order : l.first ≤ l.end;
  within : l.end ≤ length (log_of l.pasts.entries l.member);
  beside : (r : Position) (k : ℕ) → StandsAt l.pasts.entries l.place r → k < l.first → ¬ (Precedes HappenedBefore (log_of l.pasts.entries) r (at l.member k));
  after : (r : Position) (k : ℕ) → StandsAt l.pasts.entries l.place r → l.end ≤ k → k < length (log_of l.pasts.entries l.member)
      → Precedes HappenedBefore (log_of l.pasts.entries) r (at l.member k);
}

abbrev pub decreases-loop-first : goal.decreases-loop-first
decreases-loop-first l = l.end - l.first
