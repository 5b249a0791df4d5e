-- Receipts that a restart undid and on which some member still depends at the end: a recovery left orphans.
use Rattle.std.specs.Prelude.{ℕ, ◌≡◌, ◌↔◌, ◌⊎◌, ◌+◌, true, List, [], ◌∷◌}
use Rattle.std.specs.FinSet as set
use Rattle.fbl_judge.specs.declared.undone.UndoneReceipt.{UndoneReceipt}
use Rattle.fbl_judge.specs.Unsafe.{IsLeftOrphanAt, IsReceiptPlace}
use Rattle.fbl_runs.specs.declared.entry.Entry.{Entry}
use Rattle.fbl_runs.specs.Clocks.{StandsAt}
use Rattle.fbl_runs.specs.Entries.{log_of}
use Rattle.fbl_runs.specs.HappenedBefore.{Position}
use Rattle.fbl_runs.specs.Lives.{IsUndoneBy}
use Rattle.fbl_runs.specs.Logs.{RunParts, run_of}
use Rattle.fbl_runs.specs.Moments.{IsReceiptAt, last_cut}

-- the restart undoes the receipt
abbrev pub IsUndone : RunParts → Position → Position → Type 0
IsUndone run i r = (r.member ≡ i.member) × IsUndoneBy (log_of run.entries i.member) i.number r.number

-- at the end the member, which is not struck, depends on the receipt
abbrev pub IsOrphanOf : RunParts → Position → ℕ → Type 0
IsOrphanOf run i q = IsLeftOrphanAt (run_of run) (last_cut (log_of run.entries)) run.strike i q

-- a restart undoes the receipt, and some member is an orphan of it at the end
abbrev pub LeavesOrphans : RunParts → Position → Type 0
LeavesOrphans run i = ((r : Position) × IsUndone run i r) × ((q : ℕ) × IsOrphanOf run i q)

-- what is said of such a receipt: the place of the restart, and the orphans
pub record IsSaidUndone (run : RunParts) (i : Position) (said : UndoneReceipt) : Type 0 where
  pub place : StandsAt run.entries said.place i
  pub receipt : IsReceiptAt (log_of run.entries) said.determinant i
  pub restart : (r : Position) × StandsAt run.entries said.at r × IsUndone run i r
  pub orphans : (q : ℕ) → (set.contains said.orphans q ≡ true) ↔ IsOrphanOf run i q
  pub some : (q : ℕ) × (set.contains said.orphans q ≡ true)

-- of the receipts from a place on, which has so many entries behind it, exactly those are said, in their order
abbrev pub SaysUndone : RunParts → ℕ → List Entry → List UndoneReceipt → Type 0
SaysUndone run place [] said = said ≡ []
SaysUndone run place (e ∷ entries) said =
    (((i : Position) → IsReceiptPlace run place i → ¬ (LeavesOrphans run i)) × SaysUndone run (place + 1) entries said)
    ⊎ ((i : Position) × (first : UndoneReceipt) × (rest : List UndoneReceipt) × (said ≡ first ∷ rest) × (first.place ≡ place) × IsSaidUndone run i first
    × SaysUndone run (place + 1) entries rest)
