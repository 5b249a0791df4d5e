use Rattle.fbl_group.proofs.Common.{◌≡◌, ◌+◌, ◌≤◌, ◌++◌, length, drop, vec_len, vec_capacity, pairs_of}
use Rattle.fbl_group.proofs.dump.push_pairs.Given as goal

abbrev pub invariant-loop-place : goal.invariant-loop-place
invariant-loop-place l = record {
  pairs : l.held.items ++ pairs_of l.holder (drop l.place l.table) ≡ l.fn.held.items ++ pairs_of l.holder l.table;
  len : vec_len l.held ≡ vec_len l.fn.held + l.place;
  room : vec_len l.fn.held + length l.table ≤ vec_capacity l.held;
}
