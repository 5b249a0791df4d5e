use Rattle.fbl_table.proofs.Common.{[], ◌∷◌, ap, arith, length, listed, piggybacked, length-append, append_assoc, nat_tests}
use Rattle.fbl_table.proofs.Indexing.{passed-next}
use Rattle.fbl_table.proofs.indexed.IndexedEntries.push_all.Goals as goal

pub push_if_open-requires : goal.push_if_open-requires
push_if_open-requires c =
    let next = passed-next c.args.f (listed c.args.self.now) c.loop-place.place c.entry_at.result c.entry_at.ensures in
    let all = ap length (rw next at c.loop-place.invariant.so_far) in
    omega (arith, all, length-append c.loop-place.carried.items, length-append (piggybacked c.args.f (c.entry_at.result ∷ [])), length-append c.args.carried.now.items)

pub loop-place-preserved : goal.loop-place-preserved
loop-place-preserved c = grind (arith, nat_tests, append_assoc, passed-next)
