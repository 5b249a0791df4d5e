use Rattle.fbl_table.proofs.Common.{◌≡◌, length, true, listed, KeepsIndex}
use Rattle.fbl_table.proofs.Adding.{marked_first}
use Rattle.fbl_table.proofs.indexed.IndexedEntries.mark_all.Given as goal

abbrev pub invariant-loop-place : goal.invariant-loop-place
invariant-loop-place l = record {
  so_far : listed l.self ≡ marked_first l.place l.members (listed l.fn.self);
  kept : KeepsIndex l.fn.self l.self;
  stale : l.self.stale ≡ true;
  size : length l.self.entries.entries ≡ l.place-end;
}
