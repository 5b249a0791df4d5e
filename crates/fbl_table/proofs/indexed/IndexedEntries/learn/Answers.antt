use Rattle.fbl_table.proofs.Common.{arith, listed, take_all}
use Rattle.fbl_table.proofs.Adding.{learned_next}
use Rattle.fbl_table.proofs.indexed.IndexedEntries.learn.Goals as goal

pub loop-entry-preserved : goal.loop-entry-preserved
loop-entry-preserved c =
    let before = c.loop-entry.invariant in
    let one = c.add.ensures in
    let next = learned_next c.args.me (listed c.args.self.now) c.args.carried.now c.loop-entry.entry-index c.entry-item.result c.loop-entry-test.true c.entry-item.is in
    record {
      so_far = rw (one.entries, before.so_far, next) (cc);
      indexed = λ is. one.indexed (before.indexed is);
      room = omega (arith, before.room, one.room);
    }

pub returns-clause-entries : goal.returns-clause-entries
returns-clause-entries c = rw (c.prune.ensures.entries, c.loop-entry.invariant.so_far, take_all c.loop-entry.entry-index c.args.carried.now c.loop-entry-test.false)
