-- Which holds and stores may stand in a log.
use Rattle.std.specs.Prelude.{ℕ, ◌≡◌, ◌<◌, List, Some, filter_map, length, slice_get, take}
use Rattle.fbl_trace.specs.declared.trace.Determinant.{Determinant}
use Rattle.fbl_trace.specs.Breaches.{IsOutside}
use Rattle.fbl_trace.specs.declared.trace.Mark.{Mark}
use Rattle.fbl_runs.specs.declared.entry.Entry.{Entry}
use Rattle.fbl_runs.specs.declared.fault.RecordFault.{RecordFault}
use Rattle.fbl_runs.specs.declared.fault.RecordRule.{RecordRule}
use Rattle.fbl_runs.specs.declared.fault.RecordRule.TheVariants.{TooMany, Outside, NotBefore}
use Rattle.fbl_runs.specs.Clocks.{seen}
use Rattle.fbl_runs.specs.Entries.{entry_member, log_of, mark_in, marks, recorded_in}
use Rattle.fbl_runs.specs.HappenedBefore.{at}
use Rattle.fbl_runs.specs.Moments.{IsKnownTo}

-- what the holds and stores name, in order
abbrev pub records : List Entry → List Determinant
records entries = filter_map recorded_in entries

-- the entry at the place, if it is a hold or a store, has fewer than 131,072 of them before it
abbrev pub IsFewAt : List Entry → ℕ → Type 0
IsFewAt entries i = (e : Entry) (d : Determinant) → slice_get entries i ≡ Some e → recorded_in e ≡ Some d → length (records (take i entries)) < 131072

-- the entry at the place, if there is one, is a member's
abbrev pub IsMembersAt : ℕ → List Entry → ℕ → Type 0
IsMembersAt n entries i = (e : Entry) → slice_get entries i ≡ Some e → entry_member e < n

-- the entry at the place, if there is one, says only of a receipt that happened before it that it is held or stored
abbrev pub IsKnownAt : List Entry → ℕ → Type 0
IsKnownAt entries i =
    (e : Entry) (d : Determinant) → slice_get entries i ≡ Some e → recorded_in e ≡ Some d → IsKnownTo (log_of entries) d (at (entry_member e) (seen entries i (entry_member e)))

-- the entry at the place obeys these rules
abbrev pub ObeysAt : ℕ → List Entry → ℕ → Type 0
ObeysAt n entries i = IsFewAt entries i × IsMembersAt n entries i × IsKnownAt entries i

-- the entry at the place breaks this rule first
abbrev pub BreaksAt : ℕ → List Entry → ℕ → RecordRule → Type 0
BreaksAt n entries i TooMany = ¬ (IsFewAt entries i)
BreaksAt n entries i (Outside outsider) = IsFewAt entries i × ((e : Entry) × (slice_get entries i ≡ Some e) × IsOutside n (entry_member e) outsider)
BreaksAt n entries i NotBefore = IsFewAt entries i × IsMembersAt n entries i × ¬ (IsKnownAt entries i)

-- the fault is of the first entry that breaks one, and names it and the rule
abbrev pub IsFirstBad : ℕ → List Entry → RecordFault → Type 0
IsFirstBad n entries fault =
    ((i : ℕ) → i < fault.place → ObeysAt n entries i) × (slice_get entries fault.place ≡ Some fault.entry) × BreaksAt n entries fault.place fault.rule

-- the place among the entries is that of the send or receipt that stands at the place among the sends and receipts
abbrev pub IsEventPlace : List Entry → ℕ → ℕ → Type 0
IsEventPlace entries event place =
    (e : Entry) × (m : Mark) × (slice_get entries place ≡ Some e) × (mark_in e ≡ Some m) × (length (marks (take place entries)) ≡ event)
