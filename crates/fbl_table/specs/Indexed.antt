-- A table's entries as the code has them, with the places of the open ones, which are looked at when a message is sent.
use Rattle.std.specs.Prelude.{◌≡◌, ℕ, Bool, true, false, cond, List, [], ◌∷◌, slice_get, ◌+◌, ◌-◌, ◌≤◌, map, min, length, vec_len, vec_capacity}
use Rattle.std.proofs.Common.{suc}
use Rattle.std.specs.List.{AllZip}
use Rattle.std.specs.Option.{option_map_or}
use Rattle.fbl_table.specs.declared.entry.Entry.{Entry}
use Rattle.fbl_table.specs.Tables.{is_open, entry_of}
use Rattle.indexmap.specs.IndexMap.{spare}
use Rattle.fbl_table.specs.declared.indexed.IndexedEntries.{IndexedEntries}

-- whether at most f members are known to hold the determinant at the place
abbrev pub open_at : ℕ → List Entry → ℕ → Bool
open_at f table place = option_map_or (is_open f) (slice_get table place) false

-- the places of the open entries, where the first entry stands at place k
unfoldable pub places_of_open : ℕ → ℕ → List Entry → List ℕ
places_of_open f k [] = []
places_of_open f k (e ∷ table) = cond (is_open f e) (k ∷ places_of_open f (suc k) table) (places_of_open f (suc k) table)

-- the places are those of the entries that were open before more was known of them, and of all that are open now but where
-- the index is stale
pub record IsIndex (f : ℕ) (table : List Entry) (open_places : List ℕ) (stale : Bool) : Type 0 where
  pub before : List Entry
  pub grown : AllZip (λ now old. is_open f now ≡ true → is_open f old ≡ true) table before
  pub places : open_places ≡ places_of_open f 0 before
  pub exact : stale ≡ false → open_places ≡ places_of_open f 0 table

-- the entries in their order
abbrev pub listed : IndexedEntries → List Entry
listed t = map entry_of t.entries.entries

-- the places that are kept are an index of the entries
abbrev pub IsIndexed : IndexedEntries → Type 0
IsIndexed t = IsIndex t.limit (listed t) t.open_places.items t.stale

-- for how many entries more there is memory
abbrev pub room : IndexedEntries → ℕ
room t = min (spare t.entries) (vec_capacity t.open_places - vec_len t.open_places)

-- what each step keeps: an index stays one, and of the room no more is taken than one for each new entry
pub record KeepsIndex (old new : IndexedEntries) : Type 0 where
  pub index : IsIndexed old → IsIndexed new
  pub room : length (listed old) + room old ≤ length (listed new) + room new
