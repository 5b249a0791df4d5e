-- what is said of the receipts so far, and what is to be said of the rest, is what is said of all
use Rattle.fbl_judge.proofs.Common.{List, ◌++◌, drop}
use Rattle.fbl_judge.specs.declared.check.UnsafeReceipt.{UnsafeReceipt}
use Rattle.fbl_judge.specs.Unsafe.{SaysUnsafe}
use Rattle.fbl_judge.proofs.check.unsafe_receipts.Given as goal

abbrev pub invariant-loop-place : goal.invariant-loop-place
invariant-loop-place l = (rest : List UnsafeReceipt) → SaysUnsafe l.pasts l.place (drop l.place l.pasts.entries) rest → SaysUnsafe l.pasts 0 l.pasts.entries (l.unsafe_receipts.items ++ rest)
