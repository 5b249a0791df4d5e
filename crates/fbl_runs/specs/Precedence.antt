-- What precedes each entry, by clocks.
use Rattle.std.specs.Prelude.{ℕ, ◌≡◌, ◌==◌, ◌+◌, ◌<◌, ◌≤◌, ◌↔◌, List, length, max, Option, Some, None, slice_get, if◌then◌else◌}
use Rattle.fbl_trace.specs.declared.trace.Determinant.{Determinant}
use Rattle.fbl_runs.specs.declared.causality.Causality.{Causality}
use Rattle.fbl_runs.specs.declared.causality.Causality.TheVariants.{Dependence, HappenedBefore}
use Rattle.fbl_runs.specs.declared.clock.Clock.{Clock}
use Rattle.fbl_runs.specs.declared.entry.Entry.{Entry}
use Rattle.fbl_runs.specs.declared.clocks.Clocks.{Clocks}
use Rattle.fbl_runs.specs.declared.clocks.Predecessors.{Predecessors}
use Rattle.fbl_runs.specs.declared.links.Link.{Link}
use Rattle.fbl_runs.specs.Clocks.{StandsAt, cut_of}
use Rattle.fbl_runs.specs.Entries.{entry_member, log_of, receipt_in}
use Rattle.fbl_runs.specs.HappenedBefore.{Position, Precedes}
use Rattle.fbl_runs.specs.Links.{AreLinks}
use Rattle.fbl_runs.specs.Moments.{Cut, HasCome}

-- the cut has exactly what happened before the entry
abbrev pub IsPast : List Entry → Position → Cut → Type 0
IsPast entries j cut = (i : Position) → HasCome cut i ↔ Precedes HappenedBefore (log_of entries) i j

-- ---- clocks

-- the number with which a clock counts the entry: its member's in one of what happened before, and its life's in one of dependences
abbrev pub column : Causality → Entry → Link → ℕ
column HappenedBefore e link = entry_member e
column Dependence e link = link.life

abbrev pub HasColumn : Causality → List Entry → List Link → Position → ℕ → Type 0
HasColumn HappenedBefore entries links i number = i.member ≡ number
HasColumn Dependence entries links i number = (p : ℕ) × (link : Link) × StandsAt entries p i × (slice_get links p ≡ Some link) × (link.life ≡ number)

-- of the entries that it counts with each number, the cut has exactly those that precede this one
abbrev pub IsClock : Causality → List Entry → List Link → Position → Cut → Type 0
IsClock c entries links j cut = (i : Position) (number : ℕ) → HasColumn c entries links i number → (i.number < cut number) ↔ Precedes c (log_of entries) i j

-- ---- a pass over the entries

-- the place of the message's send, if the entry is a receipt: what a member is told carries no dependence
abbrev pub message_taken : Option Determinant → Option ℕ → Option ℕ
message_taken None message = None
message_taken (Some d) message = message

-- the places of what leads to an entry at once: in its member's log the last one, with a message, and from the restart that begins the life
-- that it names
abbrev pub predecessors_of : Causality → Entry → Link → Predecessors
predecessors_of HappenedBefore e link = record { before = link.previous; message = link.message; begins = link.begins }
predecessors_of Dependence e link = record { before = link.stood; message = message_taken (receipt_in e) link.message; begins = None }

-- the cut is the clock of the entry at the place, if there is one, and else has nothing
abbrev pub IsPredecessorClock : Causality → List Entry → List Link → Option ℕ → Cut → Type 0
IsPredecessorClock c entries links None cut = (q : ℕ) → cut q ≡ 0
IsPredecessorClock c entries links (Some place) cut = (i : Position) → StandsAt entries place i → IsClock c entries links i cut

-- the cut has what the clocks of these have
abbrev pub IsJoined : Causality → List Entry → List Link → Predecessors → Cut → Type 0
IsJoined c entries links predecessors cut =
    (a : Cut) × (b : Cut) × (d : Cut) × IsPredecessorClock c entries links predecessors.before a × IsPredecessorClock c entries links predecessors.message b
    × IsPredecessorClock c entries links predecessors.begins d × ((q : ℕ) → cut q ≡ max (max (a q) (b q)) (d q))

-- these are among the first p
abbrev pub IsBelow : ℕ → Option ℕ → Type 0
IsBelow p o = (place : ℕ) → o ≡ Some place → place < p

abbrev pub AreBelow : ℕ → Predecessors → Type 0
AreBelow p predecessors = IsBelow p predecessors.before × IsBelow p predecessors.message × IsBelow p predecessors.begins

-- the entry at the place, if there is one, stands among its member's first ones, so many
abbrev pub IsAmong : List Entry → Option ℕ → ℕ → Type 0
IsAmong entries o count = (place : ℕ) (i : Position) → o ≡ Some place → StandsAt entries place i → i.number < count

-- the cut of the clock that is kept at the place, if there is one
abbrev pub cut_in : Option Clock → Cut
cut_in None q = 0
cut_in (Some clock) q = cut_of clock q

abbrev pub kept_cut : List Clock → Option ℕ → Cut
kept_cut kept None q = 0
kept_cut kept (Some place) q = cut_in (slice_get kept place) q

-- where the clock that the entry at the place has is kept, if one is
abbrev pub arrival_in : Option (Option ℕ) → Option ℕ
arrival_in None = None
arrival_in (Some arrival) = arrival

abbrev pub arrival_at : List (Option ℕ) → Option ℕ → Option ℕ
arrival_at arrivals None = None
arrival_at arrivals (Some place) = arrival_in (slice_get arrivals place)

-- the cut of the clock that is kept, with so many that are counted with the number
abbrev pub reached_cut : Cut → ℕ → ℕ → Cut
reached_cut cut number count q = max (cut q) (if q == number then count else 0)

-- the entry is counted with the number, and its clock is the one that is kept with it and what is counted with it up to it
pub record IsEntryClock (c : Causality) (entries : List Entry) (links : List Link) (kept : List Clock) (j : Position) (number : ℕ) (arrival : Option ℕ) : Type 0 where
  pub column : HasColumn c entries links j number
  pub room : number < 24
  pub within : (place : ℕ) → arrival ≡ Some place → place < length kept
  pub clock : IsClock c entries links j (reached_cut (kept_cut kept arrival) number (j.number + 1))

-- an entry that is counted with the number has the clock that is kept of the one before it: nothing else leads to it, and that one, if there
-- is one, is counted with the number too
abbrev pub Shares : Clocks → Predecessors → ℕ → Type 0
Shares clocks predecessors number =
    (predecessors.message ≡ None) × (predecessors.begins ≡ None) × ((place : ℕ) → predecessors.before ≡ Some place → slice_get clocks.columns.items place ≡ Some number)

-- the pass has seen the first p entries: it knows their clocks
pub record HasSeen (c : Causality) (entries : List Entry) (links : List Link) (p : ℕ) (clocks : Clocks) : Type 0 where
  pub causality : clocks.causality ≡ c
  pub within : p ≤ length entries
  pub columns : length clocks.columns.items ≡ p
  pub arrivals : length clocks.arrivals.items ≡ p
  pub each : (place : ℕ) (j : Position) (number : ℕ) (arrival : Option ℕ) → StandsAt entries place j
      → slice_get clocks.columns.items place ≡ Some number → slice_get clocks.arrivals.items place ≡ Some arrival
      → IsEntryClock c entries links clocks.kept.items j number arrival

-- the clocks are those of the entries, by some links of them
abbrev pub AreClocks : Causality → List Entry → Clocks → Type 0
AreClocks c entries clocks = (links : List Link) × AreLinks entries links × HasSeen c entries links (length entries) clocks
