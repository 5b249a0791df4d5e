-- Which entries of a member depend on a receipt at a moment, and which restarts came last there.
use Rattle.std.specs.Prelude.{ℕ, ◌≡◌, ◌<◌, ◌≤◌, List, Option, Some, None, slice_get}
use Rattle.fbl_runs.specs.declared.causality.Causality.TheVariants.{Dependence, HappenedBefore}
use Rattle.fbl_runs.specs.declared.entry.Entry.{Entry}
use Rattle.fbl_runs.specs.declared.entry.Entry.TheVariants.{Restart}
use Rattle.fbl_runs.specs.declared.entry.Restart as restart
use Rattle.fbl_runs.specs.Clocks.{StandsAt}
use Rattle.fbl_runs.specs.Entries.{Logs, log_of}
use Rattle.fbl_runs.specs.HappenedBefore.{Carries, Position, Precedes, at}
use Rattle.fbl_runs.specs.Logs.{RunParts, run_of}
use Rattle.fbl_runs.specs.Moments.{Cut, HasRestarted, Stands}
use Rattle.fbl_judge.specs.Unsafe.{IsLastRestart}

-- the log has a restart
abbrev pub HasRestart : List Entry → Type 0
HasRestart log = (k : ℕ) × (r : restart.Restart) × (slice_get log k ≡ Some (Restart r))

-- the entry depends on the receipt, and stands at the cut
abbrev pub IsDependent : Logs → Position → Cut → Position → Type 0
IsDependent logs i cut j = Precedes Dependence logs i j × Stands logs cut j

-- of the member's first entries, this many, it is the first that does, if there is one
abbrev pub IsFirstOf : Logs → Position → Cut → ℕ → ℕ → Option ℕ → Type 0
IsFirstOf logs i cut member count None = (k : ℕ) → k < count → ¬ (IsDependent logs i cut (at member k))
IsFirstOf logs i cut member count (Some number) =
    (number < count) × IsDependent logs i cut (at member number) × ((k : ℕ) → k < number → ¬ (IsDependent logs i cut (at member k)))

-- the place is that of a send whose message the entry takes, and which depends on the receipt, if there is one
abbrev pub IsDependentSend : List Entry → Position → Position → Option ℕ → Type 0
IsDependentSend entries i j None = (k : Position) → Carries (log_of entries) k j → ¬ (Precedes Dependence (log_of entries) i k)
IsDependentSend entries i j (Some place) =
    (k : Position) × StandsAt entries place k × Carries (log_of entries) k j × Precedes Dependence (log_of entries) i k

-- the restart has come at the cut, and did not happen before the entry
abbrev pub IsLater : Logs → Cut → Position → Position → Type 0
IsLater logs cut j r = HasRestarted logs cut r × ¬ (Precedes HappenedBefore logs r j)

-- the place is that of such a restart, if there is one
abbrev pub IsLaterPlace : List Entry → Cut → Position → Option ℕ → Type 0
IsLaterPlace entries cut j None = (r : Position) → HasRestarted (log_of entries) cut r → Precedes HappenedBefore (log_of entries) r j
IsLaterPlace entries cut j (Some place) = (r : Position) × StandsAt entries place r × IsLater (log_of entries) cut j r

-- no other that has come at the cut comes after the restart
abbrev pub IsLatest : Logs → Cut → Position → Type 0
IsLatest logs cut r = (other : Position) → HasRestarted logs cut other → Precedes HappenedBefore logs r other → other ≡ r

-- the entry is of a lesser member than that at the place, if there is one
abbrev pub IsLesser : List Entry → Position → Option ℕ → Type 0
IsLesser entries r None = Unit {0}
IsLesser entries r (Some place) = (k : Position) × StandsAt entries place k × (r.member < k.member)

-- the place is that of the last of them of the least member, if there is one
abbrev pub IsLastPlace : RunParts → Cut → Position → Option ℕ → Type 0
IsLastPlace run cut j None = (r : Position) → ¬ (IsLastRestart (run_of run) cut j r)
IsLastPlace run cut j (Some place) =
    (k : Position) × StandsAt run.entries place k × IsLastRestart (run_of run) cut j k × ((r : Position) → IsLastRestart (run_of run) cut j r → k.member ≤ r.member)
