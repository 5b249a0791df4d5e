use Rattle.fbl_table.proofs.Common.{arith, listed, add-zero, drop_all, nat_tests}
use Rattle.fbl_table.proofs.Adding.{held_at, lacks-next}
use Rattle.fbl_table.proofs.indexed.IndexedEntries.lacking_beyond.Goals as goal

pub loop-place-preserved : goal.loop-place-preserved
loop-place-preserved c =
    let next = lacks-next (listed c.args.self.now) (listed c.args.other.now) c.loop-place.place c.entry_at-entry.result c.entry_at-entry.ensures in
    record { enough = grind (arith, next, held_at, c.loop-place.invariant.enough); few = grind (arith, c.loop-place.invariant.few) }

pub returns : goal.returns
returns c = grind (arith, nat_tests, drop_all, add-zero)
