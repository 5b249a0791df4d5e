-- What a drain keeps of a group's past.
use Rattle.std.specs.Prelude.{◌≡◌, ℕ, ◌+◌, false, List, length, sum, take}
use Rattle.fbl_trace.specs.Fold.{Next}
use Rattle.fbl_turns.specs.Runs.{Counts, Reached}
use Rattle.fbl_trace.specs.declared.trace.Event.{Event}
pub use Rattle.fbl_law.specs.CrashFree.{events_of}
use Rattle.fbl_law.specs.Groups.{GroupRecord}
use Rattle.fbl_trace.specs.declared.strike.Strike.{Strike}
use Rattle.fbl_turns.specs.Plans.{is_named}

-- the events begin with these ones
abbrev pub BeginsWith : {N : Type 0} → List (Event N) → List (Event N) → Type 0
BeginsWith events beginning = take (length beginning) events ≡ beginning

-- the old events of each member that no set of the plan has are the first of its new ones
abbrev pub KeepsPast : {S N : Type 0} → List Strike → GroupRecord S N → GroupRecord S N → Type 0
KeepsPast plan old new =
    (member : ℕ) → is_named plan member ≡ false → BeginsWith (events_of member new.trace) (events_of member old.trace)

-- what turns of workers under a plan keep, and what they count: the config and the checkpoints stay, and so do the old
-- events of each member that no set of the plan has; the counters rise by the workers' totals, of whom each has a place in
-- both lists; under an empty plan nothing is undone
pub record Keeps {S N : Type 0} (plan : List Strike) (workers : ℕ) (old new : GroupRecord S N) (made undone : List ℕ) : Type 0 where
  pub config : new.config ≡ old.config
  pub checkpoints : new.checkpoints ≡ old.checkpoints
  pub past : KeepsPast plan old new
  pub receipts : new.receipts_ever ≡ old.receipts_ever + sum made
  pub undone_ever : new.undone_ever ≡ old.undone_ever + sum undone
  pub empty : length plan ≡ 0 → sum undone ≡ 0
  pub places : (length made ≡ workers) × (length undone ≡ workers)

-- a run of turns keeps this
abbrev pub TurnsKeep : Type 0 → Type 0 → Type 0
TurnsKeep S N =
    (next : Next S N) (plan : List Strike) (workers : ℕ) (old new : GroupRecord S N) (counts : Counts) → Reached next plan workers old new counts
    → Keeps plan workers old new counts.by_worker counts.undone_by_worker
