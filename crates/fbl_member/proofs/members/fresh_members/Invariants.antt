use Rattle.fbl_member.proofs.Common.{◌≡◌, blank, fresh}
use Rattle.fbl_member.proofs.Made.{Made}
use Rattle.fbl_member.proofs.members.fresh_members.Given as goal

abbrev pub invariant-loop-number : goal.invariant-loop-number
invariant-loop-number g l = Made (blank (g.B.Behaviour.next.initial 0 l.config.members)) (λ m x. x ≡ fresh (g.B.Behaviour.next.initial m l.config.members) m l.config.starts) l.number l.members.items
