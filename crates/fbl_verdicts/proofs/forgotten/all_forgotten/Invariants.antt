use Rattle.fbl_verdicts.proofs.Common.{AllZip, take}
use Rattle.fbl_verdicts.specs.Forgotten.{AreForgotten}
use Rattle.fbl_verdicts.proofs.forgotten.all_forgotten.Given as goal

abbrev pub invariant-loop-reason : goal.invariant-loop-reason
invariant-loop-reason l = AllZip (λ reason forgotten. AreForgotten l.pasts.entries reason forgotten.restarts.items) (take l.reason-index l.reasons) l.all.items
