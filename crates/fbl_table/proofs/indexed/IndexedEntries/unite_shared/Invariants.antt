use Rattle.fbl_table.proofs.Common.{◌≡◌, ◌≤◌, take, listed, room, KeepsIndex, HasInPlace, gathered}
use Rattle.fbl_table.proofs.indexed.IndexedEntries.unite_shared.Given as goal

abbrev pub invariant-loop-place : goal.invariant-loop-place
invariant-loop-place l = record {
  so_far : listed l.self ≡ gathered (listed l.initial.self) (take l.place (listed l.other));
  same : HasInPlace l.shared (listed l.self) (listed l.other);
  kept : KeepsIndex l.initial.self l.self;
  room : room l.initial.self ≤ room l.self;
}
