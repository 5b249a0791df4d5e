-- the members so far that depend on it
use Rattle.fbl_judge.proofs.Common.{DependsAt, Position, ℕ, ◌≡◌, ◌<◌, ◌↔◌, true, log_of}
use Rattle.std.specs.FinSet as set
use Rattle.fbl_runs.specs.Clocks.{StandsAt, cut_of}
use Rattle.fbl_judge.proofs.pasts.Pasts.dependents.Given as goal

abbrev pub invariant-loop-number : goal.invariant-loop-number
invariant-loop-number l =
    (i : Position) → StandsAt l.self.entries l.receipt i → (q : ℕ) → (set.contains l.dependents q ≡ true) ↔ (q < l.number) × DependsAt (log_of l.self.entries) (cut_of l.moment) i q
