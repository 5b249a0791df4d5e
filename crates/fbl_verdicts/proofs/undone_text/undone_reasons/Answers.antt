use Rattle.fbl_verdicts.proofs.Common.{sym, subst}
use Rattle.fbl_runs.specs.HappenedBefore.{Position}
use Rattle.fbl_judge.specs.declared.undone.UndoneReceipt.{UndoneReceipt}
use Rattle.fbl_judge.specs.Undone.{IsSaidUndone}
use Rattle.fbl_verdicts.specs.UndoneReasons.{IsUndoneReason}
use Rattle.fbl_verdicts.proofs.UndoneLaws.{each_said}
use Rattle.fbl_verdicts.proofs.Zips.{zip_more}
use Rattle.fbl_verdicts.proofs.undone_text.undone_reasons.Goals as goal

pub undone_reason-requires : goal.undone_reason-requires
undone_reason-requires c =
    let run = c.args.pasts.now in
    subst (λ (said : UndoneReceipt). (i : Position) × IsSaidUndone run i said) (sym c.receipt-item.is)
    (each_said run 0 run.entries c.args.receipts.now c.requires c.loop-receipt.receipt-index c.receipt-item.result c.loop-receipt-test.true)

pub loop-receipt-preserved : goal.loop-receipt-preserved
loop-receipt-preserved c =
    rw c.in_ok-push.ensures.items (zip_more (IsUndoneReason c.args.pasts.now) c.args.receipts.now _ c.receipt-item.result _ _ c.loop-receipt-test.true
    c.receipt-item.is c.loop-receipt.invariant c.in_ok-undone_reason.ensures)
