use Rattle.fbl_runs.proofs.Common.{ℕ, ◌≡◌, ◌<◌, length, log_of}
use Rattle.fbl_runs.specs.Clocks.{cut_of}
use Rattle.fbl_runs.proofs.index.Index.last.Given as goal

abbrev pub invariant-loop-number : goal.invariant-loop-number
invariant-loop-number l = record {
  come : (q : ℕ) → q < l.number → cut_of l.last q ≡ length (log_of l.self q);
  none : (q : ℕ) → ¬ (q < l.number) → cut_of l.last q ≡ 0;
}
