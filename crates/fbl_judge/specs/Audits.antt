-- What the loss of the strike set does at a run's last moment.
use Rattle.std.specs.Prelude.{ℕ, ◌≡◌, ◌<◌, ◌+◌, ◌↔◌, ◌⊎◌, true, List, [], ◌∷◌, Option, Some, None, slice_get}
use Rattle.std.specs.FinSet as set
use Rattle.std.specs.List.{All}
use Rattle.fbl_judge.specs.declared.audit.Audit.{Audit}
use Rattle.fbl_judge.specs.declared.audit.LostReceipt.{LostReceipt}
use Rattle.fbl_runs.specs.declared.causality.Causality.TheVariants.{Dependence}
use Rattle.fbl_runs.specs.declared.entry.Entry.{Entry}
use Rattle.fbl_runs.specs.Clocks.{StandsAt}
use Rattle.fbl_runs.specs.Entries.{log_of}
use Rattle.fbl_runs.specs.HappenedBefore.{Position, Precedes}
use Rattle.fbl_runs.specs.Logs.{RunParts, run_of}
use Rattle.fbl_runs.specs.Moments.{Cut, DependsAt, IsReceiptAt, Stands, last_cut}
use Rattle.fbl_runs.specs.Runs.{IsOrphanAt, LosesReceiptAt}
use Rattle.fbl_judge.specs.Unsafe.{IsReceiptPlace}

-- all entries of the run have come
abbrev pub end_of : RunParts → Cut
end_of run = last_cut (log_of run.entries)

-- the receipt stands at the end, and the loss of the struck ones loses it there
abbrev pub IsLost : RunParts → Position → Type 0
IsLost run i = LosesReceiptAt (run_of run) (end_of run) run.strike i

-- the receipt is named by its place and its determinant
pub record IsNamedBy (run : RunParts) (i : Position) (receipt : LostReceipt) : Type 0 where
  pub place : StandsAt run.entries receipt.place i
  pub determinant : IsReceiptAt (log_of run.entries) receipt.determinant i

-- of the receipts from a place on, which has so many entries behind it, exactly the lost ones, in their order
abbrev pub AreLost : RunParts → ℕ → List Entry → List LostReceipt → Type 0
AreLost run place [] lost = lost ≡ []
AreLost run place (e ∷ entries) lost =
    (((i : Position) → IsReceiptPlace run place i → ¬ (IsLost run i)) × AreLost run (place + 1) entries lost)
    ⊎ ((i : Position) × (first : LostReceipt) × (rest : List LostReceipt) × (lost ≡ first ∷ rest) × (first.place ≡ place) × IsNamedBy run i first × IsLost run i
    × AreLost run (place + 1) entries rest)

-- each is named by its place and its determinant
abbrev pub AreNamed : RunParts → List LostReceipt → Type 0
AreNamed run receipts = All (λ receipt. (i : Position) × IsNamedBy run i receipt) receipts

-- the lost receipts are those that the loss of the struck members loses at the last moment, in the order of the entries, and the orphans are
-- those whom it leaves as orphans there
pub record IsAudit (run : RunParts) (audit : Audit) : Type 0 where
  pub lost : AreLost run 0 run.entries audit.lost.items
  pub named : AreNamed run audit.lost.items
  pub orphans : (q : ℕ) → (set.contains audit.orphans q ≡ true) ↔ IsOrphanAt (run_of run) (end_of run) run.strike q

-- ---- where orphans start

-- the entry at the place is the member's, stands at the cut, and depends on one of these receipts
abbrev pub DependsOnAny : RunParts → Cut → List LostReceipt → ℕ → ℕ → Type 0
DependsOnAny run cut lost member place =
    (j : Position) × StandsAt run.entries place j × (j.member ≡ member) × Stands (log_of run.entries) cut j
    × ((k : ℕ) × (receipt : LostReceipt) × (i : Position) × (slice_get lost k ≡ Some receipt) × StandsAt run.entries receipt.place i
    × Precedes Dependence (log_of run.entries) i j)

-- the member's first entry that does, if there is one
abbrev pub IsFirstOnAny : RunParts → Cut → List LostReceipt → ℕ → Option ℕ → Type 0
IsFirstOnAny run cut lost member None = (place : ℕ) → ¬ (DependsOnAny run cut lost member place)
IsFirstOnAny run cut lost member (Some place) = DependsOnAny run cut lost member place × ((other : ℕ) → other < place → ¬ (DependsOnAny run cut lost member other))

-- the member depends on the receipt at the cut
abbrev pub DependsOn : RunParts → Cut → LostReceipt → ℕ → Type 0
DependsOn run cut receipt member = (i : Position) × StandsAt run.entries receipt.place i × DependsAt (log_of run.entries) cut i member

-- the first of these receipts on which the member depends at the cut, if there is one
abbrev pub IsFirstCause : RunParts → Cut → List LostReceipt → ℕ → Option LostReceipt → Type 0
IsFirstCause run cut lost member None = (k : ℕ) (receipt : LostReceipt) → slice_get lost k ≡ Some receipt → ¬ (DependsOn run cut receipt member)
IsFirstCause run cut lost member (Some receipt) =
    (k : ℕ) × (slice_get lost k ≡ Some receipt) × DependsOn run cut receipt member
    × ((l : ℕ) (other : LostReceipt) → l < k → slice_get lost l ≡ Some other → ¬ (DependsOn run cut other member))
