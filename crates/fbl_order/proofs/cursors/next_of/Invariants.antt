use Rattle.fbl_order.proofs.Common.{◌≡◌, take}
use Rattle.fbl_order.proofs.Common.{entry_member}
use Rattle.fbl_order.specs.Cursors.{own}
use Rattle.fbl_order.proofs.cursors.next_of.Given as goal

abbrev pub invariant-loop-next : goal.invariant-loop-next
invariant-loop-next l = own entry_member l.member (take l.next l.entries) ≡ own entry_member l.member (take l.place l.entries)
