use Rattle.fbl_order.proofs.Common.{arith, entry_member, placed_of}
use Rattle.fbl_order.proofs.Own.{few_passed}
use Rattle.fbl_order.proofs.merge.Merge.of.Goals as goal

pub loop-place-smaller : goal.loop-place-smaller
loop-place-smaller c =
    let kept = c.in_ok-take.ensures.merges in
    let few = few_passed entry_member c.args.entries.now (placed_of c.args.entries.now c.take.new.self) c.take.new.self.cursors kept.cursors in
    omega (arith, few, kept.places.count, c.in_ok-take.ensures.longer)
