use Rattle.fbl_group.proofs.Common.{append_assoc, arith, at_drop_more, get_or_from_slice_get, pairs_of, sym, ◌∙◌, append-nil, drop_of_length-le}
use Rattle.fbl_group.proofs.dump.push_pairs.Goals as goal

pub loop-place-preserved : goal.loop-place-preserved
loop-place-preserved c = let entry = c.entry_at.result in let next = at_drop_more (pairs_of c.args.holder) c.args.table.now c.loop-place.place entry (omega arith) in grind (arith, append_assoc, next, get_or_from_slice_get c.args.table.now c.loop-place.place entry entry c.entry_at.ensures)

pub returns : goal.returns
returns c = sym (append-nil _) ∙ (rw (drop_of_length-le c.args.table.now (rw c.len-place-end.ensures.len at c.loop-place-test.false)) at c.loop-place.invariant.pairs)
