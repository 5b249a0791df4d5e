use Rattle.fbl_order.proofs.Common.{ℕ, ◌≡◌, get_or, length}
use Rattle.fbl_order.proofs.Common.{entry_member}
use Rattle.fbl_order.specs.Cursors.{IsFirstFrom}
use Rattle.fbl_order.proofs.cursors.firsts_of.Given as goal

abbrev pub invariant-loop-place : goal.invariant-loop-place
invariant-loop-place l = record {
  firsts : (q : ℕ) → IsFirstFrom entry_member l.entries l.place q (get_or l.firsts q (length l.entries));
  room : length l.firsts ≡ 16;
}
