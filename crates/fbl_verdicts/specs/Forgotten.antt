-- In which restarts members forgot a receipt.
use Rattle.std.specs.Prelude.{ℕ, ◌≡◌, ◌<◌, false, List, Some, slice_get, slice_index}
use Rattle.std.specs.FinSet as set
use Rattle.fbl_judge.specs.Pasts.{IsRestartPlace}
use Rattle.fbl_judge.specs.declared.reason.Reason.{Reason}
use Rattle.fbl_runs.specs.Clocks.{StandsAt}
use Rattle.fbl_runs.specs.Entries.{Logs, log_of}
use Rattle.fbl_runs.specs.HappenedBefore.{IsAt, Position, at}
use Rattle.fbl_runs.specs.Lives.{StandsBehind}
use Rattle.fbl_runs.specs.declared.entry.Entry.{Entry}
use Rattle.fbl_runs.specs.declared.entry.Entry.TheVariants.{Hold}
use Rattle.fbl_trace.specs.declared.trace.Determinant.{Determinant}

-- the member held the determinant when its entry at the position came
abbrev pub HeldBefore : Logs → Determinant → Position → Type 0
HeldBefore logs d r = (k : ℕ) × IsAt logs (at r.member k) (Hold r.member d) × StandsBehind (logs r.member) k r.number

-- the restart at the position has come at the moment of the reason; its member held the receipt's determinant until then, and does not
-- hold it at the moment
pub record IsForgottenIn (logs : Logs) (reason : Reason) (r : Position) : Type 0 where
  pub come : r.number < slice_index reason.cut r.member
  pub held : HeldBefore logs reason.determinant r
  pub forgotten : set.contains reason.holders r.member ≡ false

-- the places are those of all such restarts
pub record AreForgotten (entries : List Entry) (reason : Reason) (places : List ℕ) : Type 0 where
  pub each : (k place : ℕ) → slice_get places k ≡ Some place
      → IsRestartPlace entries place × ((r : Position) × StandsAt entries place r × IsForgottenIn (log_of entries) reason r)
  pub all : (place : ℕ) (r : Position) → IsRestartPlace entries place → StandsAt entries place r → IsForgottenIn (log_of entries) reason r
      → (k : ℕ) × (slice_get places k ≡ Some place)
