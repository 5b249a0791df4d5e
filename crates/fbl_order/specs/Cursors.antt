-- Where the members' next items stand in a list in which those of different members are mixed: events, or entries.
use Rattle.std.specs.Prelude.{ℕ, ◌≡◌, ◌==◌, ◌<◌, ◌≤◌, Bool, true, false, List, Option, Some, None, length, slice_get, slice_index_or, take}
use Rattle.std.specs.List.{filter}

-- the member's own items, in order
abbrev pub own : {X : Type 0} → (X → ℕ) → ℕ → List X → List X
own of member items = filter (λ x. of x == member) items

-- an item of the member stands at the place, if there is one
abbrev pub IsNextOf : {X : Type 0} → (X → ℕ) → List X → ℕ → ℕ → Type 0
IsNextOf {X} of items member place = (place ≤ length items) × ((x : X) → slice_get items place ≡ Some x → of x ≡ member)

-- the member's first item from the start on stands at the place, if there is one
pub record IsFirstFrom {X : Type 0} (of : X → ℕ) (items : List X) (start member place : ℕ) : Type 0 where
  pub later : start ≤ place
  pub next : IsNextOf of items member place
  pub skips : own of member (take place items) ≡ own of member (take start items)

-- where the member's next item stands, by its cursor: past the last item where it has none
abbrev pub cursor_in : {X : Type 0} → List X → List ℕ → ℕ → ℕ
cursor_in items cursors member = slice_index_or cursors member (length items)

-- the run has of each member the items before its cursor
pub record AreCursors {X : Type 0} (of : X → ℕ) (items run : List X) (cursors : List ℕ) : Type 0 where
  pub logs : (member : ℕ) → own of member run ≡ own of member (take (cursor_in items cursors member) items)
  pub next : (member : ℕ) → IsNextOf of items member (cursor_in items cursors member)
  pub room : length cursors ≡ 16

-- the run is the front of the items, and no cursor stands in it
pub record IsInStep {X : Type 0} (items run : List X) (cursors : List ℕ) : Type 0 where
  pub front : run ≡ take (length run) items
  pub ahead : (member : ℕ) → length run ≤ cursor_in items cursors member

-- of the members' cursors, the least at whose place something may come
abbrev pub IsLeastCursor : (ℕ → Type 0) → (ℕ → ℕ) → Option ℕ → Type 0
IsLeastCursor MayCome cursor None = (member : ℕ) → ¬ (MayCome (cursor member))
IsLeastCursor MayCome cursor (Some place) =
    MayCome place × ((member : ℕ) × (cursor member ≡ place)) × ((member : ℕ) → MayCome (cursor member) → place ≤ cursor member)

-- of the cursors before the end, the least for which the answer is yes
pub record IsLeastGiven (Gives : ℕ → Bool → Type 0) (cursors : List ℕ) (end : ℕ) (least : Option ℕ) : Type 0 where
  pub none : least ≡ None → (member : ℕ) → slice_index_or cursors member end < end → Gives (slice_index_or cursors member end) false
  pub some : (place : ℕ) → least ≡ Some place
      → (place < end) × Gives place true × ((member : ℕ) × (slice_index_or cursors member end ≡ place))
  pub before : (place : ℕ) → least ≡ Some place
      → (member : ℕ) → slice_index_or cursors member end < place → Gives (slice_index_or cursors member end) false
