-- What several files have of the members' logs: of each member a piece.
use Rattle.std.specs.Prelude.{ℕ, ◌≡◌, ◌==◌, ◌<◌, ◌≤◌, ◌⊎◌, List, [], ◌∷◌, Option, Some, None, AllPairs, cond, flat_map, length, map, slice_index_or}
use Rattle.std.specs.List.{range_with_len}
use Rattle.std.specs.List.Sorted.{IsPermutation}
use Rattle.fbl_runs.specs.declared.entry.Entry.{Entry}
use Rattle.fbl_runs.specs.declared.entry.Restart as restart
use Rattle.fbl_runs.specs.declared.run.RawLog.{RawLog}
use Rattle.fbl_runs.specs.Entries.{entry_member, restart_in}

-- ---- lives

-- the life of the restart, if it is one of the member, and else the other one
abbrev pub life_or : ℕ → Option restart.Restart → ℕ → ℕ
life_or member None life = life
life_or member (Some r) life = cond (r.member == member) r.life life

-- the life of the member's piece: that of its first restart there, or 0 where it has none
abbrev pub life_of_piece : ℕ → List Entry → ℕ
life_of_piece member [] = 0
life_of_piece member (e ∷ rest) = life_or member (restart_in e) (life_of_piece member rest)

-- for each entry of a file, the life of its piece
abbrev pub lives_in : List Entry → List ℕ
lives_in entries = map (λ e. life_of_piece (entry_member e) entries) entries

-- the entries of the files, one file's behind another's, and the lives of their pieces
abbrev pub entries_of : List RawLog → List Entry
entries_of files = flat_map (λ file. file.entries.items) files

abbrev pub lives_of : List RawLog → List ℕ
lives_of files = flat_map (λ file. lives_in file.entries.items) files

-- ---- orders

abbrev pub member_at : List Entry → ℕ → ℕ
member_at entries place = slice_index_or (map entry_member entries) place 0

abbrev pub life_at : List ℕ → ℕ → ℕ
life_at lives place = slice_index_or lives place 0

-- by what the places of a member are put in order
abbrev pub turn_of : List ℕ → ℕ → ℕ × ℕ
turn_of lives place = (life_at lives place, place)

-- of two entries of a member, that of the piece of the earlier life comes first; of one life, that which was given first
abbrev pub IsInTurn : List Entry → List ℕ → ℕ → ℕ → Type 0
IsInTurn entries lives a b =
    member_at entries a ≡ member_at entries b → (life_at lives a < life_at lives b) ⊎ ((life_at lives a ≡ life_at lives b) × (a ≤ b))

-- the places of the entries as they were given
abbrev pub as_given : List Entry → List ℕ
as_given entries = range_with_len 0 (length entries)

-- the places of the entries, in an order in which each member's pieces follow by their lives: as they were given, if they do so there
pub record AreByLife (entries : List Entry) (lives places : List ℕ) : Type 0 where
  pub all : IsPermutation (as_given entries) places
  pub follow : AllPairs (IsInTurn entries lives) places
  pub kept : AllPairs (IsInTurn entries lives) (as_given entries) → places ≡ as_given entries
