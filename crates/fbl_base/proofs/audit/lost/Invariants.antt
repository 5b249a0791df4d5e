use Rattle.std.proofs.Common.{◌≡◌, take}
use Rattle.fbl_base.specs.DumpRuns.{determinants}
use Rattle.fbl_base.proofs.audit.lost.Given as goal

abbrev pub invariant-loop-receipt : goal.invariant-loop-receipt
invariant-loop-receipt l = l.lost.items ≡ determinants (take l.receipt-index l.receipt-items)
