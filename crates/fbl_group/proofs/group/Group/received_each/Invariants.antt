use Rattle.fbl_group.proofs.Common.{◌≡◌, member, Made}
use Rattle.fbl_group.proofs.group.Group.received_each.Given as goal

abbrev pub invariant-loop-number : goal.invariant-loop-number
invariant-loop-number g l = Made 0 (λ m x. x ≡ (member l.self m).received) l.number l.received.items
