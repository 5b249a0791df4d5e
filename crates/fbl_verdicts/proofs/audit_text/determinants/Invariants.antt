use Rattle.fbl_verdicts.proofs.Common.{◌≡◌, map, take}
use Rattle.fbl_verdicts.proofs.audit_text.determinants.Given as goal

abbrev pub invariant-loop-receipt : goal.invariant-loop-receipt
invariant-loop-receipt l = l.determinants.items ≡ map (λ r. r.determinant) (take l.receipt-index l.lost)
