use Rattle.fbl_verdicts.proofs.Common.{◌≡◌, ◌++◌, map, take}
use Rattle.fbl_verdicts.specs.declared.check_text.Said.TheVariants.{Undone, Unsafe}
use Rattle.fbl_verdicts.proofs.check_text.all_said.Given as goal

abbrev pub invariant-loop-receipt : goal.invariant-loop-receipt
invariant-loop-receipt l = l.said.items ≡ map Unsafe (take l.receipt-index l.unsafe_receipts)

abbrev pub invariant-loop-undone : goal.invariant-loop-undone
invariant-loop-undone l = l.said.items ≡ map Unsafe l.unsafe_receipts ++ map Undone (take l.undone-index l.undone_receipts)
