-- none of the entries so far is a restart
use Rattle.std.proofs.Common.{◌≡◌, ◌<◌, ◌≤◌, ℕ, Some, slice_get}
use Rattle.fbl_runs.specs.declared.entry.Restart as restart
use Rattle.fbl_runs.specs.declared.entry.Entry.TheVariants.{Restart}
use Rattle.fbl_runs.specs.Entries.{log_of}
use Rattle.fbl_judge.proofs.views.next_restart.Given as goal

abbrev pub invariant-loop-number : goal.invariant-loop-number
invariant-loop-number l = (k : ℕ) (r : restart.Restart) → l.start ≤ k → k < l.number → ¬ (slice_get (log_of l.index l.member) k ≡ Some (Restart r))
