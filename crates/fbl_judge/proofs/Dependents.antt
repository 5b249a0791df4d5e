-- A member's first entry that depends on a receipt at a moment.
use Rattle.fbl_judge.proofs.Common.{ℕ, ◌<◌, ◌+◌, inl, List, length, Some, None, refl, arith, slice_get_within}
use Rattle.fbl_judge.proofs.Common.{Dependence, Entry, Cut, DependsAt, Logs, log_of, Position, Precedes, StandsBehind, StandsAt, at, step, RunParts}
use Rattle.fbl_runs.proofs.Listing.{some_entry}
use Rattle.fbl_runs.proofs.ClockLaws.{last_there}
use Rattle.fbl_judge.specs.Dependents.{HasRestart, IsDependent, IsFirstOf}
use Rattle.fbl_judge.specs.Paths.{IsDependentPlace}

-- where a member has not restarted, what has come stands
pub stands_alive : (log : List Entry) (k x : ℕ) → ¬ (HasRestart log) → k < x → StandsBehind log k x
stands_alive log k x alive less = (less, λ number r past below here. absurd (alive (number, r, here)))

-- and what stands behind what depends on a receipt depends on it too
pub depends_on : (logs : Logs) (i : Position) (m k l : ℕ) → ¬ (HasRestart (logs m)) → l < length (logs m) → k < l → Precedes Dependence logs i (at m k) → Precedes Dependence logs i (at m l)
depends_on logs i m k l alive within less path =
    let here = last_there path in
    let there = some_entry (logs m) l within in
    step path (inl ((here.0, there.0, here.1, there.1, refl, less), stands_alive (logs m) k (l + 1) alive (omega (arith, less))))

-- a dependent entry is one of those that have come, and that there are
pub dependent_within : (logs : Logs) (i : Position) (cut : Cut) (m k : ℕ) → IsDependent logs i cut (at m k) → (k < cut m) × (k < length (logs m))
dependent_within logs i cut m k is = (let there = last_there is.0 in (is.1.0, slice_get_within (logs m) k there.0 there.1))

-- the first of those that have come is the member's first
pub none_dependent : (logs : Logs) (i : Position) (cut : Cut) (m count : ℕ) → ((k : ℕ) → k < cut m → k < length (logs m) → k < count) → IsFirstOf logs i cut m count None → ¬ (DependsAt logs cut i m)
none_dependent logs i cut m count all none depends = (let w = dependent_within logs i cut m depends.0 (depends.1, depends.2) in none depends.0 (all depends.0 w.0 w.1) (depends.1, depends.2))

pub first_dependent : (run : RunParts) (i : Position) (cut : Cut) (m count number place : ℕ) → StandsAt run.entries place (at m number) → IsFirstOf (log_of run.entries) i cut m count (Some number) → IsDependentPlace run i cut m place
first_dependent run i cut m count number place stands is = (
  at m number,
  stands,
  refl,
  record {
    depends = is.1.0;
    stands = is.1.1;
    first = λ k less path standing. is.2 k less (path, standing);
  },
)
