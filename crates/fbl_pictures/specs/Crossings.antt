-- Where the line of a moment crosses the members' lines.
use Rattle.std.specs.Prelude.{ℕ, ◌≡◌, ◌<◌, ◌≤◌, List, Option, Some, None, length, slice_get, slice_index}
use Rattle.fbl_runs.specs.declared.entry.Entry.{Entry}
use Rattle.fbl_runs.specs.Clocks.{StandsAt, seen}
use Rattle.fbl_runs.specs.Entries.{entry_member}
use Rattle.fbl_runs.specs.HappenedBefore.{Position}
use Rattle.fbl_runs.specs.Moments.{Cut, HasCome}
use Rattle.fbl_pictures.specs.declared.run.columns.Columns.{Columns}
use Rattle.fbl_pictures.specs.declared.run.crossings.Crossings.{Crossings}
use Rattle.fbl_pictures.specs.Columns.{column_in}

-- the place is behind each of the first p entries that has come
abbrev pub IsBehind : List Entry → Cut → ℕ → ℕ → Type 0
IsBehind entries cut p end = (place : ℕ) (i : Position) → place < p → StandsAt entries place i → HasCome cut i → place < end

-- it is the first such place
pub record IsEnd (entries : List Entry) (cut : Cut) (p end : ℕ) : Type 0 where
  pub behind : IsBehind entries cut p end
  pub first : (other : ℕ) → IsBehind entries cut p other → end ≤ other

-- before the column stand those entries of the member that have come, and no others of it; it is the last such column up to the end
pub record IsCrossing (entries : List Entry) (cut : Cut) (end member column : ℕ) : Type 0 where
  pub come : seen entries column member ≡ cut member
  pub within : column ≤ end
  pub last : (other : ℕ) → other ≤ end → seen entries other member ≡ cut member → other ≤ column

-- where the moment crosses a member's line, if it is one of so many
abbrev pub IsCrossingOf : ℕ → List Entry → Cut → ℕ → ℕ → Option ℕ → Type 0
IsCrossingOf members entries cut end member None = members ≤ member
IsCrossingOf members entries cut end member (Some column) = (member < members) × IsCrossing entries cut end member column

-- the columns before which the moment crosses the members' lines
abbrev pub AreCrossings : ℕ → List Entry → Cut → Columns → Type 0
AreCrossings members entries cut columns =
    (end : ℕ) × IsEnd entries cut (length entries) end
    × ((q : ℕ) → q < 16 → IsCrossingOf members entries cut end q (column_in columns q))

-- ---- how they are found

-- of the first p entries each of the member has come; or this is the place of the first of them that has not
abbrev pub IsBeyond : List Entry → Cut → ℕ → ℕ → Option ℕ → Type 0
IsBeyond entries cut p member None = seen entries p member ≤ cut member
IsBeyond entries cut p member (Some place) =
    (place < p) × (seen entries place member ≡ cut member) × ((e : Entry) × (slice_get entries place ≡ Some e) × (entry_member e ≡ member))

-- the pass has seen the first p entries
pub record HasPassed (entries : List Entry) (cut : Cut) (p : ℕ) (pass : Crossings) : Type 0 where
  pub room : length pass.counts ≡ 16
  pub counts : (q : ℕ) → q < 16 → slice_index pass.counts q ≡ seen entries p q
  pub end : IsEnd entries cut p pass.end
  pub beyond : (q : ℕ) → q < 16 → IsBeyond entries cut p q (column_in pass.beyond q)
