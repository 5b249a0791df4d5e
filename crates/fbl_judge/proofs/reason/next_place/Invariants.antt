-- those passed have come
use Rattle.fbl_judge.proofs.Common.{cut_of}
use Rattle.fbl_judge.proofs.RecordedLaws.{IsOfPassed, IsReached, left}
use Rattle.fbl_judge.proofs.ReasonLaws.{HasNotCome}
use Rattle.fbl_judge.proofs.reason.next_place.Given as goal

abbrev pub invariant-loop-next : goal.invariant-loop-next
invariant-loop-next l = record {
  reached : IsReached l.pasts.entries l.determinant l.next;
  come : ¬ (IsOfPassed l.pasts.entries l.determinant (HasNotCome l.pasts.entries (cut_of l.moment)) l.next);
}

abbrev pub decreases-loop-next : goal.decreases-loop-next
decreases-loop-next l = left l.pasts.entries l.next
