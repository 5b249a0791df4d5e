use Rattle.fbl_table.proofs.Common.{arith, length-map, length-set_value_at, set_value_at, entry_of}
use Rattle.fbl_table.proofs.Indexing.{index-put}
use Rattle.fbl_table.proofs.indexed.IndexedEntries.put.Goals as goal

pub returns-clause-kept : goal.returns-clause-kept
returns-clause-kept c =
    let old = c.args.self.now in
    let es = old.entries.entries in
    record {
      index = index-put old.limit es c.args.place c.args.before c.args.known c.requires.before c.requires.more old.stale c.requires.stale old.open_places.items;
      room = omega (arith, length-map es entry_of, length-map (set_value_at es c.args.place c.args.known) entry_of, length-set_value_at es c.args.place c.args.known);
    }
