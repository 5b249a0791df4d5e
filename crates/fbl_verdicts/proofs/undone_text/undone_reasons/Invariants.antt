use Rattle.fbl_verdicts.proofs.Common.{take}
use Rattle.fbl_verdicts.specs.UndoneReasons.{AreUndoneReasons}
use Rattle.fbl_verdicts.proofs.undone_text.undone_reasons.Given as goal

abbrev pub invariant-loop-receipt : goal.invariant-loop-receipt
invariant-loop-receipt l = AreUndoneReasons l.pasts (take l.receipt-index l.receipts) l.reasons.items
