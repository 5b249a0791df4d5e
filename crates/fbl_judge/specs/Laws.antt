-- Laws of runs, for the functions that state them.
use Rattle.std.specs.Prelude.{ℕ, ◌≡◌, ◌≤◌, ◌⊎◌, ◌↔◌, true, List, Option, Some, None}
use Rattle.std.specs.FinSet as set
use Rattle.fbl_trace.specs.declared.trace.Determinant.{Determinant}
use Rattle.fbl_trace.specs.MemberSets.{AllBelow, Members}
use Rattle.fbl_runs.specs.declared.causality.Causality.TheVariants.{HappenedBefore}
use Rattle.fbl_runs.specs.declared.entry.Entry.{Entry}
use Rattle.fbl_runs.specs.Entries.{log_of}
use Rattle.fbl_runs.specs.HappenedBefore.{IsAt, Position, Precedes}
use Rattle.fbl_runs.specs.Logs.{RunParts, run_of}
use Rattle.fbl_runs.specs.Moments.{Cut, DependsAt, HasCome, HoldsAt, IsInStepOf, IsLeastMoment, IsReceiptAt, IsStoredAt, Stands}
use Rattle.fbl_runs.specs.Runs.{AlwaysSafe, AreEntries, IsJudgedAt, IsSafe, IsSafeFromTheFirst, Run}
use Rattle.fbl_runs.specs.Clocks.{StandsAt}
use Rattle.fbl_judge.specs.declared.check.UnsafeReceipt.{UnsafeReceipt}
use Rattle.fbl_judge.specs.Unsafe.{IsSaidOf, IsUnsafe}

-- at the least moment at which an entry has come there have come its causal past, and what is in one step with an entry of that, and no more
abbrev pub LeastMomentLaw : Type 0
LeastMomentLaw =
    (n : ℕ) (entries : List Entry) → AreEntries n entries
    → (j : Position) (e : Entry) → IsAt (log_of entries) j e
    → (cut : Cut) × IsLeastMoment (log_of entries) j cut
    × ((i : Position) → HasCome cut i ↔ Precedes HappenedBefore (log_of entries) i j
    ⊎ ((k : Position) × Precedes HappenedBefore (log_of entries) k j × IsInStepOf (log_of entries) k i))

-- a run is always safe exactly where it is, for each set of restarts, at the least moments at which the members depend on its receipts
abbrev pub AlwaysSafeLaw : Type 0
AlwaysSafeLaw =
    (run : Run) (entries : List Entry) → run.logs ≡ log_of entries → AreEntries run.members entries → AllBelow run.strike run.members
    → AlwaysSafe run ↔ IsSafeFromTheFirst run

-- the members are those that hold the determinant at the moment
abbrev pub AreHolders : Run → Cut → Determinant → Members → Type 0
AreHolders run cut d holders = (q : ℕ) → (set.contains holders q ≡ true) ↔ HoldsAt run.logs cut d q

-- wherever the run is judged, where at most f members hold a receipt that stands and is not on stable storage, all that depend on it hold it: the
-- always-no-orphans condition of Alvisi and Marzullo (1998); judged at each moment, the run does not possibly break it (Cooper and
-- Marzullo 1991)
abbrev pub HasAlwaysNoOrphans : Run → Type 0
HasAlwaysNoOrphans run =
    (cut : Cut) → IsJudgedAt run.judged run.logs cut → (i : Position) (d : Determinant) → IsReceiptAt run.logs d i → Stands run.logs cut i
    → ¬ (IsStoredAt run.logs cut d) → (holders : Members) → AreHolders run cut d holders
    → set.len holders ≤ run.f → (q : ℕ) → DependsAt run.logs cut i q → set.contains holders q ≡ true

-- where nobody is struck, a run is safe exactly by this condition
abbrev pub NoOrphansLaw : Type 0
NoOrphansLaw =
    (run : Run) (entries : List Entry) → run.logs ≡ log_of entries → AreEntries run.members entries → run.strike ≡ set.empty
    → IsSafe run ↔ HasAlwaysNoOrphans run

-- an entry of the one list and one of the other are the same entry of the same member's log, if either is named
abbrev pub IsSameEntry : List Entry → List Entry → Option ℕ → Option ℕ → Type 0
IsSameEntry entries others None None = Unit {0}
IsSameEntry entries others (Some p) (Some q) = (j : Position) × StandsAt entries p j × StandsAt others q j
IsSameEntry entries others _ _ = ⊥

-- both say the same of a receipt: the same members are struck and the same are orphans, at the same entry
pub record SaySame (entries others : List Entry) (said other : UnsafeReceipt) : Type 0 where
  pub strike : said.strike ≡ other.strike
  pub orphans : said.orphans ≡ other.orphans
  pub at : IsSameEntry entries others said.at other.at

-- how the entries of different members are listed makes no difference to whether a run is safe, which receipts are unsafe, and what is
-- said of each, but for the place
abbrev pub OrderLaw : Type 0
OrderLaw =
    (run : RunParts) (others : List Entry) → ((q : ℕ) → log_of run.entries q ≡ log_of others q)
    → (IsSafe (run_of run) ↔ IsSafe (run_of (record run { entries = others })))
    × ((i : Position) → IsUnsafe (run_of run) i ↔ IsUnsafe (run_of (record run { entries = others })) i)
    × ((i : Position) (said other : UnsafeReceipt) → IsSaidOf run i said → IsSaidOf (record run { entries = others }) i other → SaySame run.entries others said other)
