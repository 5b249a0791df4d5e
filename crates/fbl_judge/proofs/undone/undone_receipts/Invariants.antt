-- what is said of the receipts so far, and what is to be said of the rest, is what is said of all
use Rattle.fbl_judge.proofs.Common.{List, ◌++◌, drop}
use Rattle.fbl_judge.specs.Undone.{SaysUndone}
use Rattle.fbl_judge.specs.declared.undone.UndoneReceipt.{UndoneReceipt}
use Rattle.fbl_judge.proofs.undone.undone_receipts.Given as goal

abbrev pub invariant-loop-place : goal.invariant-loop-place
invariant-loop-place l = (rest : List UndoneReceipt) → SaysUndone l.pasts l.place (drop l.place l.pasts.entries) rest → SaysUndone l.pasts 0 l.pasts.entries (l.undone.items ++ rest)
