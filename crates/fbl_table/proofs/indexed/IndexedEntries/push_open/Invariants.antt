use Rattle.fbl_table.proofs.Common.{◌≡◌, ◌++◌, drop, slice_get, filter_map, vec_capacity, listed, piggybacked}
use Rattle.fbl_table.proofs.indexed.IndexedEntries.push_open.Given as goal

abbrev pub invariant-loop-place : goal.invariant-loop-place
invariant-loop-place l = record {
  so_far : l.carried.items ++ filter_map (slice_get (listed l.self)) (drop l.place-index l.self.open_places.items)
      ≡ l.initial.carried.items ++ piggybacked l.self.limit (listed l.self);
  room : vec_capacity l.carried ≡ vec_capacity l.initial.carried;
}
