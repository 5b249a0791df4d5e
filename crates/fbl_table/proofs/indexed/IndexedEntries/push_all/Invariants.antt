use Rattle.fbl_table.proofs.Common.{◌≡◌, ◌++◌, drop, vec_capacity, listed, piggybacked}
use Rattle.fbl_table.proofs.indexed.IndexedEntries.push_all.Given as goal

abbrev pub invariant-loop-place : goal.invariant-loop-place
invariant-loop-place l = record {
  so_far : l.carried.items ++ piggybacked l.f (drop l.place (listed l.self)) ≡ l.initial.carried.items ++ piggybacked l.f (listed l.self);
  room : vec_capacity l.carried ≡ vec_capacity l.initial.carried;
}
