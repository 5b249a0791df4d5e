-- Why restarts undid receipts and left orphans of them.
use Rattle.std.specs.Prelude.{ℕ, ◌≡◌, ◌≢◌, ◌+◌, ◌<◌, ◌≤◌, ◌⊎◌, ◌↔◌, true, List, length}
use Rattle.std.specs.List.{AllZip}
use Rattle.std.specs.FinSet as set
use Rattle.fbl_judge.specs.declared.undone.UndoneReceipt.{UndoneReceipt}
use Rattle.fbl_judge.specs.Paths.{ArePathsFrom}
use Rattle.fbl_judge.specs.Undone.{IsSaidUndone}
use Rattle.fbl_verdicts.specs.declared.undone_text.UndoneReason.{UndoneReason}
use Rattle.fbl_runs.specs.declared.causality.Causality.TheVariants.{HappenedBefore}
use Rattle.fbl_runs.specs.Entries.{Logs, log_of}
use Rattle.fbl_runs.specs.Clocks.{StandsAt}
use Rattle.fbl_runs.specs.HappenedBefore.{Position, Precedes, at}
use Rattle.fbl_runs.specs.Logs.{RunParts}
use Rattle.fbl_runs.specs.Moments.{Cut, HoldsAt, IsStoredAt, last_cut}

-- so many of the member's first entries did not happen after the entry at the position, and the others did
pub record IsCountBeside (logs : Logs) (r : Position) (member count : ℕ) : Type 0 where
  pub within : count ≤ length (logs member)
  pub beside : (k : ℕ) → k < count → ¬ (Precedes HappenedBefore logs r (at member k))
  pub after : (k : ℕ) → count ≤ k → k < length (logs member) → Precedes HappenedBefore logs r (at member k)

-- the restart's member has its entries up to the restart, and another member those that did not happen after it
abbrev pub IsCountAt : Logs → Position → ℕ → ℕ → Type 0
IsCountAt logs r member count = ((member ≡ r.member) × (count ≡ r.number + 1)) ⊎ ((member ≢ r.member) × IsCountBeside logs r member count)

-- so has each member at the cut
abbrev pub IsMomentOf : Logs → Position → Cut → Type 0
IsMomentOf logs r cut = (q : ℕ) → IsCountAt logs r q (cut q)

-- the reason of what is said of an undone receipt: whether its determinant was stored when the restart came, and who held it, and a path from
-- it to each member that is an orphan of it at the end
pub record IsUndoneReason (run : RunParts) (said : UndoneReceipt) (reason : UndoneReason) : Type 0 where
  pub receipt : reason.receipt ≡ said
  pub position : Position
  pub says : IsSaidUndone run position said
  pub restart : Position
  pub at : StandsAt run.entries said.at restart
  pub cut : Cut
  pub moment : IsMomentOf (log_of run.entries) restart cut
  pub stored : (reason.is_stored ≡ true) ↔ IsStoredAt (log_of run.entries) cut said.determinant
  pub holders : (q : ℕ) → (set.contains reason.holders q ≡ true) ↔ HoldsAt (log_of run.entries) cut said.determinant q
  pub paths : ArePathsFrom run position (last_cut (log_of run.entries)) (λ q. set.contains said.orphans q ≡ true) 0 reason.paths.items

-- the reasons are those of what is said, in its order
abbrev pub AreUndoneReasons : RunParts → List UndoneReceipt → List UndoneReason → Type 0
AreUndoneReasons run said reasons = AllZip (IsUndoneReason run) said reasons
