-- One member's receipts by their numbers.
use Rattle.std.specs.Prelude.{◌≡◌, ℕ, nat_lt, if◌then◌else◌, List, Option, None, slice_index_or}
use Rattle.fbl_trace.specs.declared.trace.Determinant.{Determinant}
use Rattle.fbl_table.specs.declared.entry.Entry.{Entry}
use Rattle.fbl_table.specs.Tables.{found}

-- the determinant at the place of a receipt number, if there is one
abbrev pub receipt_at : List (Option Determinant) → ℕ → Option Determinant
receipt_at places rsn = slice_index_or places rsn None

-- under each number beyond a first count stands what the table finds of the member, and under the others nothing
abbrev pub IsByNumber : ℕ → ℕ → List Entry → List (Option Determinant) → Type 0
IsByNumber member count table places = (rsn : ℕ) → receipt_at places rsn ≡ (if nat_lt count rsn then found member rsn table else None)
