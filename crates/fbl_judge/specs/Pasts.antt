-- What the pasts of a run's entries say of them.
use Rattle.std.specs.Prelude.{ℕ, ◌≡◌, ◌<◌, ◌≤◌, Bool, true, false, List, length, Option, Some, None, slice_get}
use Rattle.std.specs.List.{list_any}
use Rattle.fbl_runs.specs.declared.causality.Causality.TheVariants.{Dependence, HappenedBefore}
use Rattle.fbl_runs.specs.declared.clock.Clock.{Clock}
use Rattle.fbl_runs.specs.declared.clocks.Clocks.{Clocks}
use Rattle.fbl_runs.specs.declared.entry.Entry.{Entry}
use Rattle.fbl_runs.specs.declared.entry.Entry.TheVariants.{Restart, Told}
use Rattle.fbl_runs.specs.declared.entry.Restart as restart
use Rattle.fbl_runs.specs.declared.records.RecordPlaces.{RecordPlaces}
use Rattle.fbl_runs.specs.Clocks.{cut_of}
use Rattle.fbl_runs.specs.Entries.{Logs, log_of}
use Rattle.fbl_runs.specs.HappenedBefore.{Position, Precedes, at}
use Rattle.fbl_runs.specs.Logs.{IsRun, RunParts}
use Rattle.fbl_runs.specs.Precedence.{AreClocks}
use Rattle.fbl_runs.specs.Records.{AreRecordPlaces}
use Rattle.fbl_judge.specs.Views.{AreViews}
use Rattle.fbl_judge.specs.declared.view.View.{View}

-- of the member's entries from the start to the top it is the first that depends on the other
pub record IsFirstInLife (logs : Logs) (i : Position) (member start top k : ℕ) : Type 0 where
  pub after : start ≤ k
  pub within : k < top
  pub depends : Precedes Dependence logs i (at member k)
  pub first : (l : ℕ) → start ≤ l → l < k → ¬ (Precedes Dependence logs i (at member l))

-- whether the entry's member is told a control message, or is back after a crash
abbrev pub is_told_or_restart : Entry → Bool
is_told_or_restart (Told m) = true
is_told_or_restart (Restart r) = true
is_told_or_restart e = false

-- the clocks are those of the entries' dependences, or those are what happened before them, since no member is told a control message and
-- none restarts
abbrev pub AreDependences : List Entry → Option Clocks → Type 0
AreDependences entries (Some clocks) = AreClocks Dependence entries clocks
AreDependences entries None = list_any is_told_or_restart entries ≡ false

-- the entry at the place is a restart
abbrev pub IsRestartPlace : List Entry → ℕ → Type 0
IsRestartPlace entries place = (r : restart.Restart) × (slice_get entries place ≡ Some (Restart r))

-- the places are those of the restarts
pub record AreRestartPlaces (entries : List Entry) (places : List ℕ) : Type 0 where
  pub each : (k place : ℕ) → slice_get places k ≡ Some place → IsRestartPlace entries place
  pub all : (place : ℕ) → IsRestartPlace entries place → (k : ℕ) × (slice_get places k ≡ Some place)

-- the run obeys its rules, the index is of its entries, it is known where they hold and store each determinant, a clock is that of all, it is
-- known what happened before each entry and on what it depends, and which restarts its moments have
pub record AreOf (run : RunParts) (indexed : List Entry) (recorded : RecordPlaces) (full : Clock) (befores : Clocks) (dependences : Option Clocks) (found : List View) (places : List ℕ) : Type 0 where
  pub rules : IsRun run
  pub index : indexed ≡ run.entries
  pub records : AreRecordPlaces run.entries 0 recorded
  pub last : (q : ℕ) → cut_of full q ≡ length (log_of run.entries q)
  pub before : AreClocks HappenedBefore run.entries befores
  pub depends : AreDependences run.entries dependences
  pub views : AreViews (log_of run.entries) found
  pub restarts : AreRestartPlaces run.entries places
