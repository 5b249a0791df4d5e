-- the member depends on none of these receipts so far
use Rattle.fbl_judge.proofs.Common.{ℕ, ◌≡◌, ◌<◌, Some, cut_of, slice_get}
use Rattle.fbl_judge.specs.Audits.{DependsOn}
use Rattle.fbl_judge.specs.declared.audit.LostReceipt.{LostReceipt}
use Rattle.fbl_judge.proofs.audit.first_cause.Given as goal

abbrev pub invariant-loop-receipt : goal.invariant-loop-receipt
invariant-loop-receipt l = (k : ℕ) (receipt : LostReceipt) → k < l.receipt-index → slice_get l.lost k ≡ Some receipt → ¬ (DependsOn l.pasts (cut_of l.moment) receipt l.member)
