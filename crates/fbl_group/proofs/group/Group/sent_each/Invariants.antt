use Rattle.fbl_group.proofs.Common.{◌≡◌, length, member, Made}
use Rattle.fbl_group.proofs.group.Group.sent_each.Given as goal

abbrev pub invariant-loop-number : goal.invariant-loop-number
invariant-loop-number g l = Made 0 (λ m x. x ≡ length (member l.self m).log) l.number l.sent.items
