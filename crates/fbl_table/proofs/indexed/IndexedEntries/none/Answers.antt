use Rattle.fbl_table.proofs.Indexing.{index-none}
use Rattle.fbl_table.proofs.indexed.IndexedEntries.none.Goals as goal

pub returns-clause-indexed : goal.returns-clause-indexed
returns-clause-indexed c = rw (c.new.ensures.empty, c.new-2.ensures.items) (index-none c.args.limit)
