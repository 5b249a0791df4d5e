-- What a table is after each call: a list of entries, no two with the same determinant. The members known to hold a
-- determinant are an estimate from below of those that do, its Log (Alvisi and Marzullo 1998). That determinants are passed
-- on with messages until more than f members are known to hold them is called family-based logging (Alvisi, Hoppe and
-- Marzullo 1993).
use Rattle.std.specs.Prelude.{◌≡◌, ◌<◌, ℕ, Bool, true, false, not, ◌&&◌, ◌==◌, nat_le, if◌then◌else◌, List, [], ◌∷◌, ◌++◌, map, max, Option, Some, slice_get}
use Rattle.std.specs.List.{IsDistinct, filter, fold, find, list_any}
use Rattle.std.specs.Option.{option_map, option_map_or}
use Rattle.std.specs.Ordering.{nat_cmp}
use Rattle.std.specs.FinSet as set
use Rattle.fbl_trace.specs.declared.trace.Determinant.{Determinant}
use Rattle.fbl_trace.specs.Events.{same_determinant}
use Rattle.fbl_table.specs.declared.entry.Entry.{Entry}

-- no two entries have the same determinant
abbrev pub IsOnce : List Entry → Type 0
IsOnce entries = IsDistinct same_determinant (map (λ e. e.det) entries)

-- the table with the entry added: what is known of its determinant is united, and a new determinant goes last
unfoldable pub added : List Entry → Entry → List Entry
added [] entry = entry ∷ []
added (e ∷ table) entry =
    if same_determinant entry.det e.det
    then record { det = e.det; known = set.union e.known entry.known } ∷ table
    else e ∷ added table entry

-- the entry, with the member among those known to hold its determinant
abbrev pub held_by : ℕ → Entry → Entry
held_by me entry = record { det = entry.det; known = set.insert entry.known me }

-- the other table's entries added in turn
abbrev pub gathered : List Entry → List Entry → List Entry
gathered table other = fold added table other

-- what was carried to the member, added in turn
abbrev pub learned : ℕ → List Entry → List Entry → List Entry
learned me table carried = gathered table (map (held_by me) carried)

-- the member's own new determinant, last, known to be held by the member alone
abbrev pub noted : ℕ → List Entry → Determinant → List Entry
noted me table determinant = table ++ record { det = determinant; known = set.insert set.empty me } ∷ []

-- at most f members are known to hold it
abbrev pub is_open : ℕ → Entry → Bool
is_open f entry = nat_le (set.len entry.known) f

-- the entries that are passed on, in table order
abbrev pub piggybacked : ℕ → List Entry → List Entry
piggybacked f table = filter (is_open f) table

-- the members of the set added to what is known of each determinant
abbrev pub marked : set.FinSet nat_cmp → List Entry → List Entry
marked members table = map (λ e. record { det = e.det; known = set.union e.known members }) table

-- whether the table has the determinant
abbrev pub is_held : List Entry → Determinant → Bool
is_held table determinant = list_any (λ e. same_determinant determinant e.det) table

-- whether the table has nothing of the entry's determinant
abbrev pub lacks : List Entry → Entry → Bool
lacks table entry = not (is_held table entry.det)

-- whether the entry at the place is the determinant's
abbrev pub has_at : List Entry → Determinant → ℕ → Bool
has_at table determinant place = option_map_or (λ e. same_determinant determinant e.det) (slice_get table place) false

-- the first table has the determinants of the first k entries of the second, each at its place
abbrev pub HasInPlace : ℕ → List Entry → List Entry → Type 0
HasInPlace k table other = (place : ℕ) (e : Entry) → place < k → slice_get other place ≡ Some e → has_at table e.det place ≡ true

-- whether it is the determinant of the member's receipt with this number
abbrev pub is_of_receipt : ℕ → ℕ → Entry → Bool
is_of_receipt to rsn entry = (entry.det.to == to) && (entry.det.rsn == rsn)

-- the determinant of the member's receipt with this number, of several the first
abbrev pub found : ℕ → ℕ → List Entry → Option Determinant
found to rsn table = option_map (λ e. e.det) (find (is_of_receipt to rsn) table)

-- the receipt number, 0 for a receipt of another member
abbrev pub rsn_of : ℕ → Entry → ℕ
rsn_of to entry = if entry.det.to == to then entry.det.rsn else 0

-- the greatest receipt number of the member, 0 if there is none
abbrev pub greatest_rsn : ℕ → List Entry → ℕ
greatest_rsn to table = fold (λ last e. max last (rsn_of to e)) 0 table

-- an entry of the table, as the map has it
abbrev pub entry_of : Determinant × set.FinSet nat_cmp → Entry
entry_of pair = record { det = pair.0; known = pair.1 }
