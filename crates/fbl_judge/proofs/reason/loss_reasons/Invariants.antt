use Rattle.fbl_judge.proofs.Common.{take}
use Rattle.fbl_judge.specs.Reasons.{AreLossReasons}
use Rattle.fbl_judge.proofs.reason.loss_reasons.Given as goal

abbrev pub invariant-loop-receipt : goal.invariant-loop-receipt
invariant-loop-receipt l = AreLossReasons l.pasts (take l.receipt-index l.lost) l.reasons.items
