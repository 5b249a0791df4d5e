use Rattle.fbl_table.proofs.Common.{◌≡◌, ◌≤◌, take, drop, count_by, listed, room, KeepsIndex, lacks, gathered}
use Rattle.fbl_table.proofs.indexed.IndexedEntries.gather.Given as goal

abbrev pub invariant-loop-place : goal.invariant-loop-place
invariant-loop-place l = record {
  so_far : listed l.self ≡ gathered (listed l.fn.self) (take l.place (listed l.other));
  kept : KeepsIndex l.fn.self l.self;
  room : count_by (lacks (listed l.fn.self)) (drop l.place (listed l.other)) ≤ room l.self;
}
