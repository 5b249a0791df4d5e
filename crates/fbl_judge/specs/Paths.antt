-- Why a member depends on a receipt: a path of steps that carry dependence from the one to the other.
use Rattle.std.specs.Prelude.{ℕ, ◌≡◌, ◌<◌, ◌≤◌, ◌+◌, true, List, [], ◌∷◌, Option, Some, None}
use Rattle.fbl_trace.specs.MemberSets.{Members}
use Rattle.std.specs.FinSet as set
use Rattle.fbl_judge.specs.declared.paths.OrphanPath.{OrphanPath}
use Rattle.fbl_judge.specs.Unsafe.{IsFirstDependent}
use Rattle.fbl_runs.specs.declared.causality.Causality.TheVariants.{Dependence}
use Rattle.fbl_runs.specs.declared.entry.Entry.{Entry}
use Rattle.fbl_runs.specs.Clocks.{StandsAt}
use Rattle.fbl_runs.specs.Entries.{log_of}
use Rattle.fbl_runs.specs.HappenedBefore.{Leads, Position, Precedes}
use Rattle.fbl_runs.specs.Logs.{RunParts, run_of}
use Rattle.fbl_runs.specs.Moments.{Cut, DependsAt}

-- one step that carries dependence leads from the entry at the one place to that at the other
abbrev pub PlaceLeads : List Entry → ℕ → ℕ → Type 0
PlaceLeads entries p q = (i : Position) × (j : Position) × StandsAt entries p i × StandsAt entries q j × Leads Dependence (log_of entries) i j

-- the places begin at p and end at q, and each leads to the next
pub data IsPath (entries : List Entry) : ℕ → ℕ → List ℕ → Type 0 where
  path_end : {q : ℕ} → IsPath entries q q (q ∷ [])
  path_step : {p k q : ℕ} {path : List ℕ} → PlaceLeads entries p k → IsPath entries k q path → IsPath entries p q (p ∷ path)

-- the place is that of the member's first entry that stands at the cut and depends on the receipt
abbrev pub IsDependentPlace : RunParts → Position → Cut → ℕ → ℕ → Type 0
IsDependentPlace run i cut member place = (j : Position) × StandsAt run.entries place j × (j.member ≡ member) × IsFirstDependent (run_of run) i cut j

-- a path leads from the receipt to the member's first entry that stands at the cut and depends on it
abbrev pub IsPathTo : RunParts → Position → Cut → ℕ → List ℕ → Type 0
IsPathTo run i cut member path =
    (start : ℕ) × (place : ℕ) × StandsAt run.entries start i × IsDependentPlace run i cut member place × IsPath run.entries start place path

-- a path leads from the receipt to each member from n on of which P holds, and to no other; the members rise
abbrev pub ArePathsFrom : RunParts → Position → Cut → (ℕ → Type 0) → ℕ → List OrphanPath → Type 0
ArePathsFrom run i cut P n [] = (q : ℕ) → n ≤ q → ¬ (P q)
ArePathsFrom run i cut P n (p ∷ paths) =
    (n ≤ p.orphan) × P p.orphan × IsPathTo run i cut p.orphan p.places.items × ((q : ℕ) → n ≤ q → q < p.orphan → ¬ (P q)) × ArePathsFrom run i cut P (p.orphan + 1) paths

-- of these members those that depend on the receipt at the cut
abbrev pub DependsIn : RunParts → Position → Cut → Members → ℕ → Type 0
DependsIn run i cut members q = (set.contains members q ≡ true) × DependsAt (log_of run.entries) cut i q

-- ---- how paths are found

-- the entry at the place depends on the receipt at the other
abbrev pub IsDependentOn : List Entry → ℕ → ℕ → Type 0
IsDependentOn entries receipt place =
    (i : Position) × (j : Position) × StandsAt entries receipt i × StandsAt entries place j × Precedes Dependence (log_of entries) i j

-- a step leads to the place p from the other, which stands before it and depends on the receipt; where there is none, p is the receipt's
abbrev pub IsPlaceBefore : List Entry → ℕ → ℕ → Option ℕ → Type 0
IsPlaceBefore entries receipt p None = p ≡ receipt
IsPlaceBefore entries receipt p (Some before) = (before < p) × PlaceLeads entries before p × IsDependentOn entries receipt before
