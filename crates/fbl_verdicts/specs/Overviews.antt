-- What is told first of the check of a run with restarts.
use Rattle.std.specs.Prelude.{ℕ, ◌≡◌, ◌+◌, ◌++◌, ◌⊎◌, ◌↔◌, Bool, true, List, Option, Some, None, length, map, slice_get}
use Rattle.fbl_trace.specs.declared.trace.Mark.{Mark}
use Rattle.fbl_trace.specs.declared.trace.Mark.TheVariants.{Send}
use Rattle.fbl_judge.specs.Pasts.{IsRestartPlace}
use Rattle.fbl_verdicts.specs.declared.check_text.Checked.{Checked}
use Rattle.fbl_verdicts.specs.declared.overview.Overview.{Overview}
use Rattle.fbl_runs.specs.Clocks.{StandsAt}
use Rattle.fbl_runs.specs.Entries.{Logs, log_of}
use Rattle.fbl_runs.specs.HappenedBefore.{Carries, IsAt, Position, Precedes}
use Rattle.fbl_runs.specs.Links.{IsMessageOf}
use Rattle.fbl_runs.specs.Logs.{RunParts}
use Rattle.fbl_runs.specs.Moments.{Stands, last_cut}
use Rattle.fbl_runs.specs.declared.causality.Causality.TheVariants.{HappenedBefore}
use Rattle.fbl_runs.specs.declared.entry.Entry.{Entry}
use Rattle.fbl_runs.specs.declared.entry.Entry.TheVariants.{Event}

-- ---- the first receipts of which something is said

-- the places of the receipts of which the check says something: those that are unsafe, and those that restarts undid
abbrev pub said_places : Checked → List ℕ
said_places checked = map (λ u. u.place) checked.unsafe_receipts.items ++ map (λ u. u.place) checked.undone_receipts.items

-- the place is one of these
abbrev pub IsOneOf : List ℕ → ℕ → Type 0
IsOneOf places place = (k : ℕ) × (slice_get places k ≡ Some place)

-- the entry at the one place happened before that at the other, or is that one
abbrev pub HappenedBeforeAt : List Entry → ℕ → ℕ → Type 0
HappenedBeforeAt entries first second =
    (i : Position) × (j : Position) × StandsAt entries first i × StandsAt entries second j × Precedes HappenedBefore (log_of entries) i j

-- the place is one of these, and none of the entries at the others happened before the entry at it
pub record IsFirstOf (entries : List Entry) (places : List ℕ) (place : ℕ) : Type 0 where
  pub one : IsOneOf places place
  pub first : (other : ℕ) → IsOneOf places other → HappenedBeforeAt entries other place → other ≡ place

-- the first places are exactly those, each once
pub record AreFirstOf (entries : List Entry) (places firsts : List ℕ) : Type 0 where
  pub exactly : (place : ℕ) → IsOneOf firsts place ↔ IsFirstOf entries places place
  pub once : (k l place : ℕ) → slice_get firsts k ≡ Some place → slice_get firsts l ≡ Some place → k ≡ l

-- ---- messages in flight

-- at the end the entry stands: no restart undid it
abbrev pub StandsAtEnd : Logs → Position → Type 0
StandsAtEnd logs = Stands logs (last_cut logs)

-- a receipt that stands at the end takes the message of the send
abbrev pub IsTakenAtEnd : Logs → Position → Type 0
IsTakenAtEnd logs i = (j : Position) × Carries logs i j × StandsAtEnd logs j

-- the message of the send is in flight at the end: the send stands, and no receipt that stands takes the message
pub record IsInFlight (logs : Logs) (i : Position) : Type 0 where
  pub send : (from : ℕ) × (ssn : ℕ) × (to : ℕ) × IsAt logs i (Event (Send from ssn to))
  pub stands : StandsAtEnd logs i
  pub untaken : ¬ (IsTakenAtEnd logs i)

-- the entry at the place sends such a message
abbrev pub IsInFlightFrom : List Entry → ℕ → Type 0
IsInFlightFrom entries place = (i : Position) × StandsAt entries place i × IsInFlight (log_of entries) i

-- so many of the first entries send such messages
abbrev pub CountsInFlight : List Entry → ℕ → ℕ → Type 0
CountsInFlight entries ℕ.zero count = count ≡ 0
CountsInFlight entries (ℕ.suc place) count =
    (IsInFlightFrom entries place × ((before : ℕ) × CountsInFlight entries place before × (count ≡ before + 1)))
    ⊎ (¬ (IsInFlightFrom entries place) × CountsInFlight entries place count)

-- ---- the overview

-- how many receipts are unsafe, and how many restarts undid that leave orphans; which of these receipts are the first; and how many messages
-- are in flight at the end
pub record IsOverview (run : RunParts) (checked : Checked) (overview : Overview) : Type 0 where
  pub unsafe_receipts : overview.unsafe_receipts ≡ length checked.unsafe_receipts.items
  pub undone_receipts : overview.undone_receipts ≡ length checked.undone_receipts.items
  pub first : AreFirstOf run.entries (said_places checked) overview.first.items
  pub in_flight : CountsInFlight run.entries (length run.entries) overview.in_flight

-- a run with a restart has an overview, and one without has none
abbrev pub IsOverviewOf : RunParts → Checked → Option Overview → Type 0
IsOverviewOf run checked None = (place : ℕ) → ¬ (IsRestartPlace run.entries place)
IsOverviewOf run checked (Some overview) = ((place : ℕ) × IsRestartPlace run.entries place) × IsOverview run checked overview

-- ---- how these are found

-- the entry at the place is one of the member
abbrev pub IsEntryOf : List Entry → ℕ → ℕ → Type 0
IsEntryOf entries member place = (i : Position) × StandsAt entries place i × (i.member ≡ member)

-- for each member it has one of the places at most, that of an entry of the member; and before the entry at each of the places, or with it,
-- happened the entry at one that it has
pub record AreEarliest (entries : List Entry) (places : List ℕ) (earliest : List (Option ℕ)) : Type 0 where
  pub each : (member place : ℕ) → slice_get earliest member ≡ Some (Some place) → IsOneOf places place × IsEntryOf entries member place
  pub all : (place : ℕ) → IsOneOf places place
      → (member : ℕ) × (first : ℕ) × (slice_get earliest member ≡ Some (Some first)) × HappenedBeforeAt entries first place

-- none of the entries at the other places happened before the entry at the place
abbrev pub NoneHappenedBefore : List Entry → List (Option ℕ) → ℕ → Type 0
NoneHappenedBefore entries others place =
    (member other : ℕ) → slice_get others member ≡ Some (Some other) → HappenedBeforeAt entries other place → other ≡ place

-- the entry at the first position takes the message, or the control message, of that at the second, and stands at the end
abbrev pub TakesAtEnd : Logs → Position → Position → Type 0
TakesAtEnd logs j i = IsMessageOf logs j i × StandsAtEnd logs j

-- at the place of each send it has whether a receipt that stands at the end takes the message
pub record AreTakenAtEnd (entries : List Entry) (taken : List Bool) : Type 0 where
  pub count : length taken ≡ length entries
  pub each : (place : ℕ) (i : Position) (s : Mark) (is_taken : Bool) → StandsAt entries place i → slice_get entries place ≡ Some (Event s)
      → slice_get taken place ≡ Some is_taken → (is_taken ≡ true) ↔ IsTakenAtEnd (log_of entries) i
