-- Where the entries have the first receipt that each determinant names.
use Rattle.std.specs.Prelude.{ℕ, ◌≡◌, List, Option, Some, slice_get}
use Rattle.std.specs.HashMap as hash_map
use Rattle.fbl_trace.specs.Events.{same_determinant}
use Rattle.fbl_trace.specs.declared.trace.Determinant.{Determinant}
use Rattle.fbl_runs.specs.declared.entry.Entry.{Entry}
use Rattle.fbl_runs.specs.declared.receipts.ReceiptPlaces.{ReceiptPlaces}
use Rattle.fbl_runs.specs.Entries.{receipt_in}
use Rattle.fbl_runs.specs.Records.{IsFirstFrom}

-- the entry at the place is a receipt that the determinant names
abbrev pub IsReceiptPlace : List Entry → Determinant → ℕ → Type 0
IsReceiptPlace entries d place = (e : Entry) × (slice_get entries place ≡ Some e) × (receipt_in e ≡ Some d)

-- it is the first such place, if there is one
abbrev pub IsFirstReceipt : List Entry → Determinant → Option ℕ → Type 0
IsFirstReceipt entries d found = IsFirstFrom (IsReceiptPlace entries d) 0 found

-- of the entries from p on, the places of the first receipt that each determinant names
abbrev pub AreReceiptPlaces : List Entry → ℕ → ReceiptPlaces → Type 0
AreReceiptPlaces entries p receipts = (d : Determinant) → IsFirstFrom (IsReceiptPlace entries d) p (hash_map.get same_determinant receipts.firsts d)
