use Rattle.fbl_verdicts.proofs.Common.{ℕ, ◌≡◌, ◌<◌, ◌≤◌}
use Rattle.fbl_runs.specs.Clocks.{StandsAt, cut_of}
use Rattle.fbl_runs.specs.Entries.{log_of}
use Rattle.fbl_runs.specs.HappenedBefore.{Position}
use Rattle.fbl_verdicts.specs.UndoneReasons.{IsCountAt}
use Rattle.fbl_verdicts.proofs.undone_text.moment_of.Given as goal

abbrev pub invariant-loop-number : goal.invariant-loop-number
invariant-loop-number l = record {
  below : (r : Position) (q : ℕ) → StandsAt l.pasts.entries l.restart r → q < l.number → IsCountAt (log_of l.pasts.entries) r q (cut_of l.moment q);
  above : (q : ℕ) → l.number ≤ q → cut_of l.moment q ≡ 0;
}
