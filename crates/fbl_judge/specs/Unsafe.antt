-- Unsafe receipts of a run, and what is said of each.
use Rattle.std.specs.Prelude.{ℕ, ◌≡◌, ◌<◌, ◌≤◌, ◌⊎◌, ◌↔◌, ◌+◌, true, false, List, [], ◌∷◌, Option, Some, None, take}
use Rattle.std.specs.FinSet as set
use Rattle.fbl_trace.specs.declared.trace.Determinant.{Determinant}
use Rattle.fbl_trace.specs.MemberSets.{Members}
use Rattle.fbl_judge.specs.declared.check.UnsafeReceipt.{UnsafeReceipt}
use Rattle.fbl_runs.specs.declared.causality.Causality.TheVariants.{Dependence, HappenedBefore}
use Rattle.fbl_runs.specs.declared.entry.Entry.{Entry}
use Rattle.fbl_runs.specs.declared.judged.Judged.{Judged}
use Rattle.fbl_runs.specs.declared.judged.Judged.TheVariants.{AtEachMoment, AtItsEnd}
use Rattle.fbl_runs.specs.Clocks.{StandsAt, cut_of}
use Rattle.fbl_runs.specs.Entries.{Logs, log_of}
use Rattle.fbl_runs.specs.HappenedBefore.{Position, Precedes, at}
use Rattle.fbl_runs.specs.Logs.{RunParts, run_of}
use Rattle.fbl_runs.specs.Moments.{Cut, DependsAt, HasRestarted, IsLeastDependent, IsReceiptAt, IsStoredAt, Stands, last_cut}
use Rattle.fbl_runs.specs.Rules.{restarts}
use Rattle.fbl_runs.specs.Runs.{AreStruckOrHold, IsJudgedAt, LosesAt, LosesReceiptAt, MayBeLost, Run, bound}

-- the member is left by the loss of the members at the moment, and depends on the receipt there
abbrev pub IsLeftOrphanAt : Run → Cut → Members → Position → ℕ → Type 0
IsLeftOrphanAt run cut members i q = (set.contains members q ≡ false) × DependsAt run.logs cut i q

-- at the moment some members may be lost that lose the receipt, which stands there, and leave an orphan of it
abbrev pub IsUnsafeAt : Run → Cut → Position → Type 0
IsUnsafeAt run cut i = (members : Members) × MayBeLost run members × LosesReceiptAt run cut members i × ((q : ℕ) × IsLeftOrphanAt run cut members i q)

-- the receipt is unsafe where the run is judged
abbrev pub IsUnsafe : Run → Position → Type 0
IsUnsafe run i = (cut : Cut) × IsJudgedAt run.judged run.logs cut × IsUnsafeAt run cut i

-- at the cut these are the least members whose loss loses the receipt, those struck and those that hold it, and they may be lost
pub record IsLeastStrike (run : Run) (cut : Cut) (d : Determinant) (strike : Members) : Type 0 where
  pub unstored : ¬ (IsStoredAt run.logs cut d)
  pub least : AreStruckOrHold run cut d strike
  pub few : set.len strike ≤ bound run

-- they may be lost and lose the receipt, and whatever may be lost and loses it has them
pub record IsLeastLoss (run : Run) (cut : Cut) (d : Determinant) (strike : Members) : Type 0 where
  pub may : MayBeLost run strike
  pub loses : LosesAt run cut strike d
  pub least : (members : Members) → MayBeLost run members → LosesAt run cut members d → (q : ℕ) → set.contains strike q ≡ true → set.contains members q ≡ true

-- ---- of several candidates one

-- a candidate of the receipt: of the moments with just its restarts the cut is the least at which the member depends on the receipt, which
-- stands there; these are the least members whose loss loses it there, and they leave the member as an orphan
pub record IsCandidate (run : Run) (i : Position) (d : Determinant) (q : ℕ) (cut : Cut) (strike : Members) : Type 0 where
  pub moment : IsLeastDependent run.logs i q cut
  pub stands : Stands run.logs cut i
  pub least : IsLeastStrike run cut d strike
  pub left : set.contains strike q ≡ false

-- the least number that only one of the sets has is of the first: its list of numbers, rising, comes first where both are as long
abbrev pub ListsFirst : Members → Members → Type 0
ListsFirst a b = (m : ℕ) × (set.contains a m ≡ true) × (set.contains b m ≡ false) × ((k : ℕ) → k < m → set.contains a k ≡ set.contains b k)

-- fewer members are struck, or as many and their list comes first
abbrev pub IsFewer : Members → Members → Type 0
IsFewer a b = (set.len a < set.len b) ⊎ ((set.len a ≡ set.len b) × ListsFirst a b)

-- how many restarts of the member have come at the cut, and of the first m members
abbrev pub restarts_at : Logs → Cut → ℕ → ℕ
restarts_at logs cut q = restarts (take (cut q) (logs q))

abbrev pub restarts_below : Logs → Cut → ℕ → ℕ
restarts_below logs cut ℕ.zero = 0
restarts_below logs cut (ℕ.suc m) = restarts_below logs cut m + restarts_at logs cut m

-- as lists of pairs of member and life, rising, the restarts of the first cut come first where both have as many: of the least member of
-- which they have not as many, the first has more
abbrev pub RestartsFirst : Logs → Cut → Cut → Type 0
RestartsFirst logs a b = (m : ℕ) × (restarts_at logs b m < restarts_at logs a m) × ((k : ℕ) → k < m → restarts_at logs a k ≡ restarts_at logs b k)

-- fewer restarts have come, or as many and their list comes first; or the same
abbrev pub HasFewerRestarts : Logs → Cut → Cut → Type 0
HasFewerRestarts logs a b =
    (restarts_below logs a 16 < restarts_below logs b 16)
    ⊎ ((restarts_below logs a 16 ≡ restarts_below logs b 16) × (RestartsFirst logs a b ⊎ ((k : ℕ) → restarts_at logs a k ≡ restarts_at logs b k)))

-- the first of two candidates, each the members struck, the orphan and the cut: fewer are struck, or the same and the orphan is less, or it is
-- the same and fewer restarts have come
abbrev pub ComesFirst : Logs → Members → ℕ → Cut → Members → ℕ → Cut → Type 0
ComesFirst logs a p x b q y = IsFewer a b ⊎ ((a ≡ b) × ((p < q) ⊎ ((p ≡ q) × HasFewerRestarts logs x y)))

-- the candidate that comes first of all
pub record IsFirstCandidate (run : Run) (i : Position) (d : Determinant) (q : ℕ) (cut : Cut) (strike : Members) : Type 0 where
  pub candidate : IsCandidate run i d q cut strike
  pub first : (p : ℕ) (other : Cut) (members : Members) → IsCandidate run i d p other members → ComesFirst run.logs strike q cut members p other

-- ---- where a candidate is named

-- the member's first entry that stands at the cut and depends on the receipt
pub record IsFirstDependent (run : Run) (i : Position) (cut : Cut) (j : Position) : Type 0 where
  pub depends : Precedes Dependence run.logs i j
  pub stands : Stands run.logs cut j
  pub first : (k : ℕ) → k < j.number → Precedes Dependence run.logs i (at j.member k) → ¬ (Stands run.logs cut (at j.member k))

-- the restart has come at the cut, did not happen before the entry, and no other that has come at the cut comes after it
pub record IsLastRestart (run : Run) (cut : Cut) (j r : Position) : Type 0 where
  pub come : HasRestarted run.logs cut r
  pub after : ¬ (Precedes HappenedBefore run.logs r j)
  pub last : (other : Position) → HasRestarted run.logs cut other → Precedes HappenedBefore run.logs r other → other ≡ r

-- the entry is the member's first that depends on the receipt, if all restarts at the cut happened before it; else it is of the last restarts
-- that did not that of the least member
abbrev pub IsNamed : Run → Position → ℕ → Cut → Position → Type 0
IsNamed run i q cut k =
    (j : Position) × (j.member ≡ q) × IsFirstDependent run i cut j
    × (((k ≡ j) × ((r : Position) → HasRestarted run.logs cut r → Precedes HappenedBefore run.logs r j))
    ⊎ (IsLastRestart run cut j k × ((r : Position) → IsLastRestart run cut j r → k.member ≤ r.member)))

-- ---- what is said

-- what is said is said of the last moment, with all its orphans shown; or of that of the candidate that comes first, whose entry is named by
-- its place and whose orphan is shown
abbrev pub IsSaidAt : RunParts → Position → UnsafeReceipt → Judged → Option ℕ → Type 0
IsSaidAt run i said AtItsEnd None = (cut_of said.moment ≡ last_cut (log_of run.entries)) × (said.shown ≡ said.orphans)
IsSaidAt run i said AtEachMoment (Some place) =
    (q : ℕ) × IsFirstCandidate (run_of run) i said.determinant q (cut_of said.moment) said.strike × (said.shown ≡ set.insert set.empty q)
    × ((k : Position) × StandsAt run.entries place k × IsNamed (run_of run) i q (cut_of said.moment) k)
IsSaidAt run i said _ _ = ⊥

-- what is said of an unsafe receipt: at the moment the least members whose loss loses it, and whom they leave as orphans of it, of whom
-- there is one
pub record IsSaidOf (run : RunParts) (i : Position) (said : UnsafeReceipt) : Type 0 where
  pub place : StandsAt run.entries said.place i
  pub receipt : IsReceiptAt (log_of run.entries) said.determinant i
  pub moment : IsSaidAt run i said run.judged said.at
  pub stands : Stands (log_of run.entries) (cut_of said.moment) i
  pub strike : IsLeastStrike (run_of run) (cut_of said.moment) said.determinant said.strike
  pub loss : IsLeastLoss (run_of run) (cut_of said.moment) said.determinant said.strike
  pub orphans : (q : ℕ) → (set.contains said.orphans q ≡ true) ↔ IsLeftOrphanAt (run_of run) (cut_of said.moment) said.strike i q
  pub some : (q : ℕ) × (set.contains said.orphans q ≡ true)

-- the entry at the place is a receipt
abbrev pub IsReceiptPlace : RunParts → ℕ → Position → Type 0
IsReceiptPlace run place i = StandsAt run.entries place i × ((d : Determinant) × IsReceiptAt (log_of run.entries) d i)

-- of the receipts from a place on, which has so many entries behind it, exactly the unsafe ones are said, in their order
abbrev pub SaysUnsafe : RunParts → ℕ → List Entry → List UnsafeReceipt → Type 0
SaysUnsafe run place [] said = said ≡ []
SaysUnsafe run place (e ∷ entries) said =
    (((i : Position) → IsReceiptPlace run place i → ¬ (IsUnsafe (run_of run) i)) × SaysUnsafe run (place + 1) entries said)
    ⊎ ((i : Position) × (first : UnsafeReceipt) × (rest : List UnsafeReceipt) × (said ≡ first ∷ rest) × (first.place ≡ place) × IsSaidOf run i first
    × SaysUnsafe run (place + 1) entries rest)

-- it is said of the first unsafe one of the run's receipts
pub record IsFirstUnsafe (run : RunParts) (said : UnsafeReceipt) : Type 0 where
  pub says : (i : Position) × IsSaidOf run i said
  pub safe : (place : ℕ) (i : Position) → place < said.place → IsReceiptPlace run place i → ¬ (IsUnsafe (run_of run) i)
