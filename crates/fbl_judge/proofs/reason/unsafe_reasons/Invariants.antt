use Rattle.fbl_judge.proofs.Common.{take}
use Rattle.fbl_judge.specs.Reasons.{AreUnsafeReasons}
use Rattle.fbl_judge.proofs.reason.unsafe_reasons.Given as goal

abbrev pub invariant-loop-receipt : goal.invariant-loop-receipt
invariant-loop-receipt l = AreUnsafeReasons l.pasts (take l.receipt-index l.receipts) l.reasons.items
