-- each of these restarts that has come happened before the entry
use Rattle.fbl_judge.proofs.Common.{ℕ, ◌≡◌, ◌<◌, Some, slice_get, Position, Precedes, HappenedBefore, HasCome, StandsAt, cut_of, log_of}
use Rattle.fbl_judge.proofs.named.later_restart.Given as goal

abbrev pub invariant-loop-restart : goal.invariant-loop-restart
invariant-loop-restart l =
    (j r : Position) (k place : ℕ) → StandsAt l.pasts.entries l.entry j → k < l.restart-index → slice_get l.restarts k ≡ Some place → StandsAt l.pasts.entries place r
    → HasCome (cut_of l.moment) r → Precedes HappenedBefore (log_of l.pasts.entries) r j
