use Rattle.std.proofs.Common.{◌∙◌, append-nil, append_assoc, arith, map, sym}
use Rattle.std.proofs.lemmas.List.{at_drop_more}
use Rattle.std.proofs.lemmas.Option.{get_or_from_slice_get}
use Rattle.std.proofs.Math.ListN.{drop_of_length-le}
use Rattle.fbl_table.specs.declared.entry.Entry.{Entry as TableEntry}
use Rattle.fbl_runs.specs.declared.entry.Entry.TheVariants.{Store}
use Rattle.fbl_history.proofs.record.entries.push_stores.Goals as goal

pub loop-place-preserved : goal.loop-place-preserved
loop-place-preserved c =
    let entry = c.entry_at-determinant.result in
    let next = at_drop_more (map (λ (e : TableEntry). Store c.args.member e.det)) c.args.table.now c.loop-place.place entry (omega arith) in
    grind (arith, append_assoc, next, get_or_from_slice_get c.args.table.now c.loop-place.place entry entry c.entry_at-determinant.ensures)

pub returns : goal.returns
returns c = sym (append-nil _) ∙ (rw (drop_of_length-le c.args.table.now (rw c.len-place-end.ensures.len at c.loop-place-test.false)) at c.loop-place.invariant)
