-- What a merge of the members' logs keeps.
use Rattle.std.specs.Prelude.{ℕ, ◌≡◌, ◌<◌, List, length, Option, Some, slice_get}
use Rattle.fbl_runs.specs.declared.entry.Entry.{Entry}
use Rattle.fbl_runs.specs.Entries.{entry_member}
use Rattle.fbl_runs.specs.Rules.{have_lives}
use Rattle.fbl_order.specs.Cursors.{AreCursors, IsInStep, IsLeastCursor, cursor_in}
use Rattle.fbl_order.specs.Faults.{ClosesAt, StandsIn}
use Rattle.fbl_order.specs.Known.{Knows, MayCome}
use Rattle.fbl_order.specs.Orders.{ArePlaces, Obeys, items_at}
use Rattle.fbl_order.specs.declared.fault.Obstacle.{Obstacle}
use Rattle.fbl_order.specs.declared.fault.Obstacle.TheVariants.{Waits}
use Rattle.fbl_order.specs.declared.fault.Stuck.{Stuck}
use Rattle.fbl_order.specs.declared.merge.Merge.{Merge}
use Rattle.fbl_order.specs.declared.merge.Onward.{Onward}
use Rattle.fbl_order.specs.declared.merge.Onward.TheVariants.{Ends, To}

-- where the member's next entry stands
abbrev pub cursor_of : List Entry → Merge → ℕ → ℕ
cursor_of entries merge = cursor_in entries merge.cursors

-- the entries that are placed, in their order
abbrev pub placed_of : List Entry → Merge → List Entry
placed_of entries merge = items_at entries merge.places.items

-- the entries that are placed obey the rules, and what is known is known of them; of each member those before its cursor are placed
pub record Merges (n : ℕ) (entries : List Entry) (merge : Merge) : Type 0 where
  pub obeys : Obeys (have_lives entries) n (placed_of entries merge)
  pub places : ArePlaces entries (placed_of entries merge) merge.places.items
  pub cursors : AreCursors entry_member entries (placed_of entries merge) merge.cursors
  pub known : Knows (have_lives entries) (placed_of entries merge) merge.known
  pub in_step : Obeys (have_lives entries) n entries → IsInStep entries (placed_of entries merge) merge.cursors

-- the entry at the place, if there is one, may come behind these
abbrev pub MayComeAt : ℕ → List Entry → List Entry → ℕ → Type 0
MayComeAt n before entries place = (e : Entry) × (slice_get entries place ≡ Some e) × MayCome (have_lives entries) n before e

-- of the cursors, the least whose entry may come behind those that are placed
abbrev pub IsLeastNext : ℕ → List Entry → Merge → Option ℕ → Type 0
IsLeastNext n entries merge = IsLeastCursor (MayComeAt n (placed_of entries merge) entries) (cursor_of entries merge)

-- of the cursors, the least before the end: the first entry that is not placed, if there is one
abbrev pub IsFirstLeft : List Entry → Merge → Option ℕ → Type 0
IsFirstLeft entries merge = IsLeastCursor (λ place. place < length entries) (cursor_of entries merge)

-- the place has the next entry of its member
abbrev pub IsNextAt : List Entry → Merge → ℕ → Type 0
IsNextAt entries merge place = (e : Entry) × (slice_get entries place ≡ Some e) × (cursor_of entries merge (entry_member e) ≡ place)

-- a chain whose last entry has the obstacle goes on to the place for which that waits, at which none of the chain stands; or it ends
abbrev pub IsOnward : List Stuck → Obstacle → Onward → Type 0
IsOnward chain obstacle (To place) = (obstacle ≡ Waits place) × ¬ (StandsIn chain place)
IsOnward chain obstacle (Ends number) = ClosesAt chain obstacle number
