use Rattle.fbl_table.proofs.Common.{◌≡◌, ◌+◌, ◌≤◌, take, listed, room, learned, IsIndexed}
use Rattle.fbl_table.proofs.indexed.IndexedEntries.learn.Given as goal

abbrev pub invariant-loop-entry : goal.invariant-loop-entry
invariant-loop-entry l = record {
  so_far : listed l.self ≡ learned l.me (listed l.initial.self) (take l.entry-index l.carried);
  indexed : IsIndexed l.initial.self → IsIndexed l.self;
  room : room l.initial.self ≤ room l.self + l.entry-index;
}
