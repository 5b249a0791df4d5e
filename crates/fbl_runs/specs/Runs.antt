-- Runs, and whether one is safe at each of its moments.
use Rattle.std.specs.Prelude.{ℕ, ◌≡◌, ◌<◌, ◌≤◌, ◌↔◌, ◌⊎◌, true, false, List, Some, slice_get, max}
use Rattle.std.specs.FinSet as set
use Rattle.fbl_trace.specs.declared.trace.Determinant.{Determinant}
use Rattle.fbl_trace.specs.Configs.{MembersAllowed}
use Rattle.fbl_trace.specs.MemberSets.{AllBelow, Members}
use Rattle.fbl_runs.specs.declared.entry.Entry.{Entry}
use Rattle.fbl_runs.specs.declared.judged.Judged.{Judged}
use Rattle.fbl_runs.specs.declared.judged.Judged.TheVariants.{AtEachMoment, AtItsEnd}
use Rattle.fbl_runs.specs.Entries.{Logs, entry_member}
use Rattle.fbl_runs.specs.HappenedBefore.{Position}
use Rattle.fbl_runs.specs.Moments.{Cut, DependsAt, HoldsAt, IsLeastDependent, IsMoment, IsReceiptAt, IsStoredAt, Stands, last_cut}
use Rattle.fbl_runs.specs.Rules.{AreLawful}

-- a run: the group's size and f, who is taken to be lost already, when it is judged, and the members' logs
pub record Run : Type 0 where
  pub members : ℕ
  pub f : ℕ
  pub strike : Members
  pub judged : Judged
  pub logs : Logs

-- ---- the rules of a run

-- the entries, in some order that obeys the rules; each is one of the group's
pub record AreEntries (n : ℕ) (entries : List Entry) : Type 0 where
  pub size : MembersAllowed n
  pub lawful : AreLawful n entries
  pub members : (i : ℕ) (e : Entry) → slice_get entries i ≡ Some e → entry_member e < n

-- ---- safety

-- how many members may be lost: f, or as many as are struck
abbrev pub bound : Run → ℕ
bound run = max run.f (set.len run.strike)

-- the members may be lost: they are of the group, the struck ones are among them, and they are no more than the bound
pub record MayBeLost (run : Run) (members : Members) : Type 0 where
  pub below : AllBelow members run.members
  pub struck : (q : ℕ) → set.contains run.strike q ≡ true → set.contains members q ≡ true
  pub few : set.len members ≤ bound run

-- at the moment the loss of the members loses the receipt: it is not on stable storage, and nobody outside them holds it
abbrev pub LosesAt : Run → Cut → Members → Determinant → Type 0
LosesAt run cut members d =
    ¬ (IsStoredAt run.logs cut d) × ((q : ℕ) → set.contains members q ≡ false → ¬ (HoldsAt run.logs cut d q))

-- the receipt, which stands at the moment, is lost with the members
abbrev pub LosesReceiptAt : Run → Cut → Members → Position → Type 0
LosesReceiptAt run cut members i = Stands run.logs cut i × ((d : Determinant) × IsReceiptAt run.logs d i × LosesAt run cut members d)

-- at the moment the loss of the members leaves this one as an orphan: it depends on a receipt that is lost
abbrev pub IsOrphanAt : Run → Cut → Members → ℕ → Type 0
IsOrphanAt run cut members q =
    (set.contains members q ≡ false) × ((i : Position) × LosesReceiptAt run cut members i × DependsAt run.logs cut i q)

-- whichever members are lost at the moment, nobody is an orphan
abbrev pub SafeAt : Run → Cut → Type 0
SafeAt run cut = (members : Members) → MayBeLost run members → (q : ℕ) → ¬ (IsOrphanAt run cut members q)

-- the run is safe at each moment: always no orphans (Alvisi and Marzullo 1998)
abbrev pub AlwaysSafe : Run → Type 0
AlwaysSafe run = (cut : Cut) → IsMoment run.logs cut → SafeAt run cut

-- the run is judged at the cut: at its last moment alone, or at each
abbrev pub IsJudgedAt : Judged → Logs → Cut → Type 0
IsJudgedAt AtItsEnd logs cut = cut ≡ last_cut logs
IsJudgedAt AtEachMoment logs cut = IsMoment logs cut

-- wherever the run is judged it is safe
abbrev pub IsSafe : Run → Type 0
IsSafe run = (cut : Cut) → IsJudgedAt run.judged run.logs cut → SafeAt run cut

-- ---- where to look

-- the members are those struck, and those that hold the determinant at the moment
abbrev pub AreStruckOrHold : Run → Cut → Determinant → Members → Type 0
AreStruckOrHold run cut d members =
    (q : ℕ) → (set.contains members q ≡ true) ↔ (set.contains run.strike q ≡ true) ⊎ HoldsAt run.logs cut d q

-- at the moment the receipt is on stable storage, or the member is struck or holds it, or those struck and those that hold it are more
-- than the bound
abbrev pub IsCovered : Run → Cut → Determinant → ℕ → Type 0
IsCovered run cut d member =
    ¬ (IsStoredAt run.logs cut d) → (members : Members) → AreStruckOrHold run cut d members → (set.contains members member ≡ true) ⊎ (bound run < set.len members)

-- a receipt is covered at each least moment at which it stands and a member depends on it, whichever restarts have come
abbrev pub IsSafeFromTheFirst : Run → Type 0
IsSafeFromTheFirst run =
    (i : Position) (d : Determinant) (q : ℕ) (cut : Cut) → IsReceiptAt run.logs d i → IsLeastDependent run.logs i q cut → Stands run.logs cut i
    → IsCovered run cut d q
