-- Why a receipt is unsafe where the run is judged, or lost at its end.
use Rattle.std.specs.Prelude.{ℕ, ◌≡◌, ◌<◌, ◌↔◌, true, List, Option, Some, None, slice_index}
use Rattle.std.specs.List.{AllZip}
use Rattle.std.specs.FinSet as set
use Rattle.fbl_trace.specs.declared.trace.Determinant.{Determinant}
use Rattle.fbl_judge.specs.declared.check.UnsafeReceipt.{UnsafeReceipt}
use Rattle.fbl_judge.specs.declared.reason.Reason.{Reason}
use Rattle.fbl_judge.specs.Audits.{IsNamedBy, end_of}
use Rattle.fbl_judge.specs.declared.audit.LostReceipt.{LostReceipt}
use Rattle.fbl_judge.specs.Paths.{ArePathsFrom}
use Rattle.fbl_runs.specs.Records.{IsRecordAt}
use Rattle.fbl_judge.specs.Unsafe.{IsLeftOrphanAt, IsSaidOf}
use Rattle.fbl_runs.specs.declared.entry.Entry.{Entry}
use Rattle.fbl_runs.specs.Clocks.{StandsAt, cut_of}
use Rattle.fbl_runs.specs.Entries.{log_of}
use Rattle.fbl_runs.specs.HappenedBefore.{Position}
use Rattle.fbl_runs.specs.Logs.{RunParts, run_of}
use Rattle.fbl_runs.specs.Moments.{Cut, HasCome, HoldsAt}

-- so many of its first entries each member has
abbrev pub cut_in : List ℕ → Cut
cut_in counts q = slice_index counts q

-- the place has a hold or a store of the determinant that has not come at the cut
abbrev pub IsToCome : List Entry → Cut → Determinant → ℕ → Type 0
IsToCome entries cut d place = IsRecordAt entries d place × ((i : Position) × StandsAt entries place i × ¬ (HasCome cut i))

-- it is the first such place, if there is one
abbrev pub IsNextPlace : List Entry → Cut → Determinant → Option ℕ → Type 0
IsNextPlace entries cut d None = (place : ℕ) → ¬ (IsToCome entries cut d place)
IsNextPlace entries cut d (Some next) = IsToCome entries cut d next × ((place : ℕ) → place < next → ¬ (IsToCome entries cut d place))

-- the reason has the cut, who holds the receipt's determinant there, the place of what makes it known next, and a path from the receipt to
-- each member of which P holds
pub record IsReasonAt (run : RunParts) (i : Position) (cut : Cut) (P : ℕ → Type 0) (reason : Reason) : Type 0 where
  pub moment : cut_in reason.cut ≡ cut
  pub holders : (q : ℕ) → (set.contains reason.holders q ≡ true) ↔ HoldsAt (log_of run.entries) cut reason.determinant q
  pub next : IsNextPlace run.entries cut reason.determinant reason.next
  pub paths : ArePathsFrom run i cut P 0 reason.paths.items

-- the reason of what is said of an unsafe receipt, at the cut of which it is said
pub record IsUnsafeReason (run : RunParts) (said : UnsafeReceipt) (reason : Reason) : Type 0 where
  pub place : reason.place ≡ said.place
  pub determinant : reason.determinant ≡ said.determinant
  pub at : reason.at ≡ said.at
  pub strike : reason.strike ≡ said.strike
  pub receipt : Position
  pub says : IsSaidOf run receipt said
  pub why : IsReasonAt run receipt (cut_of said.moment) (λ q. set.contains said.shown q ≡ true) reason

-- the reason of a lost receipt, at the end, with paths to all that are left and depend on it
pub record IsLossReason (run : RunParts) (lost : LostReceipt) (reason : Reason) : Type 0 where
  pub place : reason.place ≡ lost.place
  pub determinant : reason.determinant ≡ lost.determinant
  pub at : reason.at ≡ None
  pub strike : reason.strike ≡ run.strike
  pub receipt : Position
  pub named : IsNamedBy run receipt lost
  pub why : IsReasonAt run receipt (end_of run) (λ q. IsLeftOrphanAt (run_of run) (end_of run) run.strike receipt q) reason

-- the reasons are those of what is said, in its order
abbrev pub AreUnsafeReasons : RunParts → List UnsafeReceipt → List Reason → Type 0
AreUnsafeReasons run said reasons = AllZip (IsUnsafeReason run) said reasons

-- the reasons are those of these receipts, in their order
abbrev pub AreLossReasons : RunParts → List LostReceipt → List Reason → Type 0
AreLossReasons run lost reasons = AllZip (IsLossReason run) lost reasons
