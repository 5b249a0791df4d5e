use Rattle.fbl_judge.proofs.Common.{subst, sym, Position}
use Rattle.fbl_judge.specs.Reasons.{IsUnsafeReason}
use Rattle.fbl_judge.specs.Unsafe.{IsSaidOf}
use Rattle.fbl_judge.specs.declared.check.UnsafeReceipt.{UnsafeReceipt}
use Rattle.fbl_judge.proofs.ReasonLaws.{reasons_more}
use Rattle.fbl_judge.proofs.reason.unsafe_reasons.Goals as goal

pub unsafe_reason-requires : goal.unsafe_reason-requires
unsafe_reason-requires c = subst (λ (said : UnsafeReceipt). (i : Position) × IsSaidOf c.args.pasts.now i said) (sym c.receipt-item.is) (c.requires c.loop-receipt.receipt-index c.receipt-item.result c.loop-receipt-test.true)

pub loop-receipt-preserved : goal.loop-receipt-preserved
loop-receipt-preserved c =
    rw c.in_ok-push.ensures.items (reasons_more (IsUnsafeReason c.args.pasts.now) c.args.receipts.now _ c.receipt-item.result _ _ c.loop-receipt-test.true
    c.receipt-item.is c.loop-receipt.invariant c.in_ok-unsafe_reason.ensures)
