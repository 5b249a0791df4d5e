use Rattle.fbl_group.proofs.Common.{◌≡◌, [], true, member_checkpoint, IsByNumber, Made, contains}
use Rattle.fbl_group.proofs.group.Group.number_receipts.Given as goal

abbrev pub invariant-loop-number : goal.invariant-loop-number
invariant-loop-number g l = Made [] (λ p x. contains l.self.down p ≡ true → IsByNumber p (member_checkpoint l.self p).received l.gathered x) l.number l.receipts.items
