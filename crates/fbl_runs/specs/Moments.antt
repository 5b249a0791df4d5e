-- The moments of a run, and what is held and who depends on what at a moment.
use Rattle.std.specs.Prelude.{ℕ, ◌≡◌, ◌<◌, ◌≤◌, ◌↔◌, Some, length}
use Rattle.fbl_trace.specs.declared.trace.Determinant.{Determinant}
use Rattle.fbl_runs.specs.declared.causality.Causality.TheVariants.{Dependence, HappenedBefore}
use Rattle.fbl_runs.specs.declared.entry.Entry.{Entry}
use Rattle.fbl_runs.specs.declared.entry.Restart as restart
use Rattle.fbl_runs.specs.declared.entry.Entry.TheVariants.{Hold, Restart, Store}
use Rattle.fbl_runs.specs.Entries.{IsArrival, IsRecord, Logs, receipt_in}
use Rattle.fbl_runs.specs.HappenedBefore.{Position, at, IsAt, Leads, Precedes}
use Rattle.fbl_runs.specs.Lives.{StandsBehind}

-- a cut: how many of its first entries each member has
abbrev pub Cut : Type 0
Cut = ℕ → ℕ

-- all entries have come
abbrev pub last_cut : Logs → Cut
last_cut logs q = length (logs q)

-- the cut has the entry
abbrev pub HasCome : Cut → Position → Type 0
HasCome cut i = i.number < cut i.member

-- the entry is a receipt that the determinant names: where restarts undo receipts, one may be made again
abbrev pub IsReceiptAt : Logs → Determinant → Position → Type 0
IsReceiptAt logs d i = (e : Entry) × IsAt logs i e × (receipt_in e ≡ Some d)

-- the one is a receipt or a restart, or the member is told something, and the other follows it in the same log with none but holds and
-- stores between: they are one step. What a member holds with a receipt it holds before anybody can see what it does of it: it has sent
-- nothing, and if it is lost here, it depends on nothing. What stands behind a send or a tell is no part of it, since the message may be
-- taken before
abbrev pub IsInStepOf : Logs → Position → Position → Type 0
IsInStepOf logs i j =
    ((a : Entry) × IsAt logs i a × IsArrival a)
    × (i.member ≡ j.member) × (i.number < j.number)
    × ((k : ℕ) → i.number < k → k ≤ j.number → (e : Entry) × IsAt logs (at i.member k) e × IsRecord e)

-- a moment: a consistent cut (with an entry it has all that precede it; Mattern 1988) that divides no step
pub record IsMoment (logs : Logs) (cut : Cut) : Type 0 where
  pub consistent : (i j : Position) → Leads HappenedBefore logs i j → HasCome cut j → HasCome cut i
  pub whole : (i j : Position) → IsInStepOf logs i j → HasCome cut i → HasCome cut j

-- at the moment the entry stands: it has come, and each restart of its member that has come since then kept it
abbrev pub Stands : Logs → Cut → Position → Type 0
Stands logs cut i = StandsBehind (logs i.member) i.number (cut i.member)

-- at the moment the member's volatile memory has the determinant: it said so, and has not restarted since
abbrev pub HoldsAt : Logs → Cut → Determinant → ℕ → Type 0
HoldsAt logs cut d holder = (k : ℕ) × IsAt logs (at holder k) (Hold holder d) × Stands logs cut (at holder k)

-- at the moment the determinant is on stable storage
abbrev pub IsStoredAt : Logs → Cut → Determinant → Type 0
IsStoredAt logs cut d = (q : ℕ) × (k : ℕ) × IsAt logs (at q k) (Store q d) × HasCome cut (at q k)

-- a receipt that the determinant names happened before the entry
abbrev pub IsKnownTo : Logs → Determinant → Position → Type 0
IsKnownTo logs d j = (i : Position) × IsReceiptAt logs d i × Precedes HappenedBefore logs i j

-- at the moment the member depends on the receipt: some entry of it that stands does
abbrev pub DependsAt : Logs → Cut → Position → ℕ → Type 0
DependsAt logs cut i member = (k : ℕ) × Precedes Dependence logs i (at member k) × Stands logs cut (at member k)

-- ---- moments with the same restarts

-- the restart has come
abbrev pub HasRestarted : Logs → Cut → Position → Type 0
HasRestarted logs cut i = (r : restart.Restart) × IsAt logs i (Restart r) × HasCome cut i

-- the same restarts have come at both
abbrev pub SameRestarts : Logs → Cut → Cut → Type 0
SameRestarts logs cut other = (i : Position) → HasRestarted logs cut i ↔ HasRestarted logs other i

-- ---- the least moments

-- it is the least moment at which the entry has come
pub record IsLeastMoment (logs : Logs) (j : Position) (cut : Cut) : Type 0 where
  pub moment : IsMoment logs cut
  pub has : HasCome cut j
  pub least : (other : Cut) → IsMoment logs other → HasCome other j → (q : ℕ) → cut q ≤ other q

-- of the moments with just these restarts it is the least at which the member depends on the receipt
pub record IsLeastDependent (logs : Logs) (i : Position) (member : ℕ) (cut : Cut) : Type 0 where
  pub moment : IsMoment logs cut
  pub depends : DependsAt logs cut i member
  pub least : (other : Cut) → IsMoment logs other → SameRestarts logs cut other → DependsAt logs other i member → (q : ℕ) → cut q ≤ other q
