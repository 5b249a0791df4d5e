-- none of these restarts that has come comes after, but the one itself
use Rattle.fbl_judge.proofs.Common.{ℕ, ◌≡◌, ◌<◌, Some, slice_get, Position, Precedes, HappenedBefore, HasCome, StandsAt, cut_of, log_of}
use Rattle.fbl_judge.proofs.named.is_latest.Given as goal

abbrev pub invariant-loop-other : goal.invariant-loop-other
invariant-loop-other l =
    (r other : Position) (k place : ℕ) → StandsAt l.pasts.entries l.restart r → k < l.other-index → slice_get l.restarts k ≡ Some place → StandsAt l.pasts.entries place other
    → HasCome (cut_of l.moment) other → Precedes HappenedBefore (log_of l.pasts.entries) r other → other ≡ r
