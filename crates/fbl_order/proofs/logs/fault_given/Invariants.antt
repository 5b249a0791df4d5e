use Rattle.fbl_order.proofs.Common.{◌≡◌, ◌++◌, drop, map, take}
use Rattle.fbl_order.specs.Faults.{stuck_given}
use Rattle.fbl_order.proofs.logs.fault_given.Given as goal

abbrev pub invariant-loop-number : goal.invariant-loop-number
invariant-loop-number l = l.named.items ≡ map (stuck_given l.places) (take l.number l.initial.named.items) ++ drop l.number l.initial.named.items
