-- the receipts found so far, and where there is none those that the rest of the table has, are all that it has
use Rattle.fbl_table.proofs.Common.{◌≡◌, ℕ, None, drop, found, if◌then◌else◌, nat_lt, option_or, receipt_at}
use Rattle.fbl_table.proofs.receipts.Receipts.of_member.Given as goal

abbrev pub invariant-loop-place : goal.invariant-loop-place
invariant-loop-place l = (rsn : ℕ)
    → (if nat_lt l.count rsn then option_or (receipt_at l.places.items rsn) (found l.member rsn (drop l.place l.table)) else receipt_at l.places.items rsn)
    ≡ (if nat_lt l.count rsn then found l.member rsn l.table else None)
