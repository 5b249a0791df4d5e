-- those found are recorded by the holds and stores passed
use Rattle.fbl_judge.proofs.Common.{ℕ, true, ◌≡◌, ◌↔◌, cut_of}
use Rattle.std.specs.FinSet as set
use Rattle.fbl_judge.specs.Recorded.{HoldsBy, StoresBy}
use Rattle.fbl_judge.proofs.RecordedLaws.{IsOfPassed, IsReached, left}
use Rattle.fbl_judge.proofs.recorded.recorded_at.Given as goal

abbrev pub invariant-loop-next : goal.invariant-loop-next
invariant-loop-next l = record {
  reached : IsReached l.pasts.entries l.determinant l.next;
  holders : (q : ℕ) → (set.contains l.recorded.holders q ≡ true) ↔ IsOfPassed l.pasts.entries l.determinant (HoldsBy l.pasts.entries (cut_of l.moment) q) l.next;
  stored : (l.recorded.is_stored ≡ true) ↔ IsOfPassed l.pasts.entries l.determinant (StoresBy l.pasts.entries (cut_of l.moment)) l.next;
}

abbrev pub decreases-loop-next : goal.decreases-loop-next
decreases-loop-next l = left l.pasts.entries l.next
