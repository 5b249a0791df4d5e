use Rattle.fbl_group.proofs.Common.{◌≡◌, gathered_all, saved_tables}
use Rattle.fbl_group.proofs.group.Group.gather_checkpoints.Given as goal

abbrev pub invariant-loop-number : goal.invariant-loop-number
invariant-loop-number g l = l.gathered ≡ gathered_all l.fn.gathered (saved_tables l.self.outside l.self.down l.self.checkpoints l.number)
