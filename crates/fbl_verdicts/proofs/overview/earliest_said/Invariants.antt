use Rattle.fbl_verdicts.proofs.Common.{ℕ, List, ◌++◌, map, take}
use Rattle.fbl_judge.specs.declared.check.UnsafeReceipt.{UnsafeReceipt}
use Rattle.fbl_judge.specs.declared.undone.UndoneReceipt.{UndoneReceipt}
use Rattle.fbl_verdicts.specs.Overviews.{AreEarliest}
use Rattle.fbl_verdicts.proofs.overview.earliest_said.Given as goal

abbrev unsafe_places : List UnsafeReceipt → List ℕ
unsafe_places = map (λ u. u.place)

abbrev undone_places : List UndoneReceipt → List ℕ
undone_places = map (λ u. u.place)

abbrev pub invariant-loop-receipt : goal.invariant-loop-receipt
invariant-loop-receipt l = AreEarliest l.pasts.entries (unsafe_places (take l.receipt-index l.checked.unsafe_receipts.items)) l.earliest

abbrev pub invariant-loop-undone : goal.invariant-loop-undone
invariant-loop-undone l = AreEarliest l.pasts.entries
    (unsafe_places l.checked.unsafe_receipts.items ++ undone_places (take l.undone-index l.checked.undone_receipts.items))
    l.earliest
