use Rattle.fbl_judge.proofs.Common.{cut_of, take}
use Rattle.fbl_judge.specs.Audits.{IsFirstOnAny}
use Rattle.fbl_judge.proofs.audit.first_on_any.Given as goal

abbrev pub invariant-loop-receipt : goal.invariant-loop-receipt
invariant-loop-receipt l = IsFirstOnAny l.pasts (cut_of l.moment) (take l.receipt-index l.lost) l.member l.first
