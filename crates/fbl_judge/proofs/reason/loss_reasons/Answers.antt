use Rattle.fbl_judge.proofs.Common.{subst, sym, Position}
use Rattle.fbl_judge.specs.Audits.{IsNamedBy}
use Rattle.fbl_judge.specs.Reasons.{IsLossReason}
use Rattle.fbl_judge.specs.declared.audit.LostReceipt.{LostReceipt}
use Rattle.fbl_judge.proofs.ReasonLaws.{reasons_more}
use Rattle.fbl_judge.proofs.reason.loss_reasons.Goals as goal

pub loss_reason-requires : goal.loss_reason-requires
loss_reason-requires c = subst (λ (receipt : LostReceipt). (i : Position) × IsNamedBy c.args.pasts.now i receipt) (sym c.receipt-item.is) (c.requires c.loop-receipt.receipt-index c.receipt-item.result c.loop-receipt-test.true)

pub loop-receipt-preserved : goal.loop-receipt-preserved
loop-receipt-preserved c =
    rw c.in_ok-push.ensures.items (reasons_more (IsLossReason c.args.pasts.now) c.args.lost.now _ c.receipt-item.result _ _ c.loop-receipt-test.true
    c.receipt-item.is c.loop-receipt.invariant c.in_ok-loss_reason.ensures)
