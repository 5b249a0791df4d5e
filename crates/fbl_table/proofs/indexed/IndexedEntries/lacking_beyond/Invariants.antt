use Rattle.fbl_table.proofs.Common.{◌≤◌, ◌+◌, drop, count_by, listed, lacks}
use Rattle.fbl_table.proofs.indexed.IndexedEntries.lacking_beyond.Given as goal

abbrev pub invariant-loop-place : goal.invariant-loop-place
invariant-loop-place l = record {
  enough : count_by (lacks (listed l.self)) (drop l.shared (listed l.other)) ≤ l.lacking + count_by (lacks (listed l.self)) (drop l.place (listed l.other));
  few : l.lacking ≤ l.place;
}
