use Rattle.fbl_table.proofs.Common.{arith, nat_tests, drop_all, drop_next}
use Rattle.fbl_table.proofs.receipts.Receipts.of_member.Goals as goal

pub loop-place-init : goal.loop-place-init
loop-place-init c rsn = rw c.new-places.ensures.items

pub loop-place-preserved : goal.loop-place-preserved
loop-place-preserved c rsn = grind (arith, nat_tests, drop_next c.args.table.now c.loop-place.place c.entry_at-entry.result c.entry_at-entry.ensures)

pub returns : goal.returns
returns c rsn =
    let all = rw (drop_all c.loop-place.place c.args.table.now (omega arith)) at (c.loop-place.invariant rsn) in
    grind (arith, all)
