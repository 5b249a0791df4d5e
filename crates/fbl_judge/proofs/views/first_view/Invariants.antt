-- of the members so far each has the next restart from the first entry on
use Rattle.fbl_judge.proofs.Common.{ℕ, length, log_of, ◌<◌, ◌≡◌}
use Rattle.std.proofs.Common.{slice_index}
use Rattle.fbl_judge.specs.Views.{IsNextRestart}
use Rattle.fbl_judge.proofs.views.first_view.Given as goal

abbrev pub invariant-loop-number : goal.invariant-loop-number
invariant-loop-number l = record { room : length l.tops ≡ 16; each : (q : ℕ) → q < l.number → IsNextRestart (log_of l.index q) 0 (slice_index l.tops q) }
