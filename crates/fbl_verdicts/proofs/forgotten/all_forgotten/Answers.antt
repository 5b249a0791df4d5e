use Rattle.fbl_judge.specs.declared.reason.Reason.{Reason}
use Rattle.fbl_verdicts.specs.declared.forgotten.Forgotten.{Forgotten}
use Rattle.fbl_verdicts.specs.Forgotten.{AreForgotten}
use Rattle.fbl_verdicts.proofs.Zips.{zip_more}
use Rattle.fbl_verdicts.proofs.forgotten.all_forgotten.Goals as goal

pub loop-reason-preserved : goal.loop-reason-preserved
loop-reason-preserved c =
    rw c.in_ok-push.ensures.items (zip_more (λ (reason : Reason) (forgotten : Forgotten). AreForgotten c.args.pasts.now.entries reason forgotten.restarts.items) c.args.reasons.now _ c.reason-item.result _ _ c.loop-reason-test.true
    c.reason-item.is c.loop-reason.invariant c.in_ok-forgotten_of.ensures)
