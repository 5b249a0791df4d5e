use Rattle.fbl_table.proofs.Common.{arith}
use Rattle.fbl_table.proofs.Adding.{held_lookup}
use Rattle.fbl_table.proofs.indexed.IndexedEntries.place_by_hash.Goals as goal

pub returns-clause-none : goal.returns-clause-none
returns-clause-none c = (let held = held_lookup c.args.self.now.entries.entries c.args.det.now in grind (arith, held))
