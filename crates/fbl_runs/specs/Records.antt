-- Where the entries have the holds and stores of each determinant.
use Rattle.std.specs.Prelude.{ℕ, ◌≡◌, ◌<◌, ◌≤◌, ◌+◌, List, Option, Some, None, length, slice_get}
use Rattle.std.specs.HashMap as hash_map
use Rattle.fbl_trace.specs.Events.{same_determinant}
use Rattle.fbl_trace.specs.declared.trace.Determinant.{Determinant}
use Rattle.fbl_runs.specs.declared.entry.Entry.{Entry}
use Rattle.fbl_runs.specs.declared.records.RecordPlaces.{RecordPlaces}
use Rattle.fbl_runs.specs.Entries.{recorded_in}

-- a hold or a store of the determinant stands at the place
abbrev pub IsRecordAt : List Entry → Determinant → ℕ → Type 0
IsRecordAt entries d place = (e : Entry) × (slice_get entries place ≡ Some e) × (recorded_in e ≡ Some d)

-- it is the first place from p on at which P holds, if there is one
abbrev pub IsFirstFrom : (ℕ → Type 0) → ℕ → Option ℕ → Type 0
IsFirstFrom P p None = (place : ℕ) → p ≤ place → ¬ (P place)
IsFirstFrom P p (Some next) = (p ≤ next) × P next × ((place : ℕ) → p ≤ place → place < next → ¬ (P place))

abbrev pub IsNextRecord : List Entry → Determinant → ℕ → Option ℕ → Type 0
IsNextRecord entries d p found = IsFirstFrom (IsRecordAt entries d) p found

-- of the entries from p on, the places of the first hold or store of each determinant, and of the next one behind each
pub record AreRecordPlaces (entries : List Entry) (p : ℕ) (records : RecordPlaces) : Type 0 where
  pub room : length records.nexts.items ≡ length entries
  pub first : (d : Determinant) → IsNextRecord entries d p (hash_map.get same_determinant records.firsts d)
  pub next : (place : ℕ) (d : Determinant) (next : Option ℕ) → p ≤ place → IsRecordAt entries d place → slice_get records.nexts.items place ≡ Some next
      → IsNextRecord entries d (place + 1) next
