use Rattle.fbl_table.proofs.Common.{listed, HasInPlace}
use Rattle.fbl_table.proofs.indexed.IndexedEntries.shared_places.Given as goal

abbrev pub invariant-loop-place : goal.invariant-loop-place
invariant-loop-place l = HasInPlace l.place (listed l.self) (listed l.other)
