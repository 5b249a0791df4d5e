-- Lists that are made before they are filled, lists of one message, and lists that several messages share.
use Rattle.std.specs.Prelude.{◌≡◌, ℕ, ◌≤◌, [], List}
use Rattle.std.proofs.Common.{Vec}
use Rattle.std.specs.List.{All}
use Rattle.std.specs.Vec.{vec_len, vec_capacity}
use Rattle.fbl_member.specs.declared.buffers.Buffers.{Buffers}
use Rattle.fbl_table.specs.declared.entry.Entry.{Entry}
use Rattle.fbl_member.specs.declared.carried.Storage.{Storage}
use Rattle.fbl_member.specs.declared.carried.Storage.TheVariants.{Own, Shared}

-- the list is empty, with room for this many items
abbrev pub HasRoom : {X A : Type 0} → ℕ → Vec X A → Type 0
HasRoom room list = (list.items ≡ []) × (vec_len list ≡ 0) × (room ≤ vec_capacity list)

-- room for this many messages, and a list for each with room for this many entries
pub record HasRooms {N : Type 0} (messages entries : ℕ) (buffers : Buffers N) : Type 0 where
  pub wires : HasRoom messages buffers.wires
  pub count : vec_len buffers.lists ≡ messages
  pub lists : All (HasRoom entries) buffers.lists.items

-- the entries of the list
abbrev pub entries_of : Storage → List Entry
entries_of (Own list) = list.items
entries_of (Shared list) = list.value.items
