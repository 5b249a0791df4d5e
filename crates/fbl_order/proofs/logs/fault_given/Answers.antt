use Rattle.fbl_order.proofs.Common.{◌<◌, add-one, arith, length}
use Rattle.fbl_order.specs.Faults.{stuck_given}
use Rattle.fbl_order.proofs.PieceLaws.{map_next}
use Rattle.fbl_order.proofs.logs.fault_given.Goals as goal

pub loop-number-preserved : goal.loop-number-preserved
loop-number-preserved c =
    let found = c.in-NoOrder.found.items in
    let within : c.loop-number.number < length found = (let test = c.loop-number-test.true in let end = c.len-number-end.ensures in let own = c.in-NoOrder.found.ok.0 in omega (arith, test, end, own)) in
    let is = rw c.loop-number.invariant at c.index.ensures in
    rw (c.stuck_given.ensures, c.loop-number.invariant, add-one) (map_next (stuck_given c.args.places.now) found c.loop-number.number c.index.result.now within is)
