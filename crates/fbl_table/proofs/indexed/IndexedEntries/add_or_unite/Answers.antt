use Rattle.fbl_table.proofs.Common.{arith, nat_tests}
use Rattle.fbl_table.proofs.Adding.{length-added}
use Rattle.fbl_table.proofs.indexed.IndexedEntries.add_or_unite.Goals as goal

pub returns-in-None-clause-kept : goal.returns-in-None-clause-kept
returns-in-None-clause-kept c = grind (arith, nat_tests, length-added)
