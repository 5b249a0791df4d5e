use Rattle.fbl_table.proofs.Common.{◌≤◌, arith, length, length-left, listed, is_open, piggybacked}
use Rattle.fbl_table.proofs.Indexing.{few-passed}
use Rattle.fbl_table.proofs.indexed.IndexedEntries.at_most_open.Goals as goal

pub returns-then-f-self-clause-enough : goal.returns-then-f-self-clause-enough
returns-then-f-self-clause-enough c =
    let kept = c.args.self.now in
    let table = listed kept in
    let opened : length (piggybacked c.args.f table) ≤ length kept.open_places.items =
    rw c.if-f-self.true (few-passed kept.limit table kept.open_places.items kept.stale c.requires) in
    omega (arith, opened, length-left (is_open c.args.f) table)

pub returns-else-f-self-clause-enough : goal.returns-else-f-self-clause-enough
returns-else-f-self-clause-enough c = omega (arith, length-left (is_open c.args.f) (listed c.args.self.now), c.len-else-f-self.ensures.len)
