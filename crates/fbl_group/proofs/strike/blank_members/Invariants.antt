use Rattle.fbl_group.proofs.Recovering.{blank, Turned, IsPut}
use Rattle.fbl_group.proofs.strike.blank_members.Given as goal

abbrev pub invariant-loop-number : goal.invariant-loop-number
invariant-loop-number g l = Turned (blank (g.B.Behaviour.next.initial 0 0)) (IsPut (g.B.Behaviour.next.initial 0 0) l.set (λ m. blank (g.B.Behaviour.next.initial m l.n)) l.fn.members.items) l.number l.fn.members.items l.members.items
