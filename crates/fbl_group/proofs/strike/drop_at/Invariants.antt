use Rattle.fbl_group.proofs.Common.{[], rows, Replacing}
use Rattle.fbl_group.proofs.strike.drop_at.Given as goal

abbrev pub invariant-loop-sender : goal.invariant-loop-sender
invariant-loop-sender g l = Replacing l.n l.set (λ q p. []) (rows l.fn.channels) (rows l.channels) l.sender 0

abbrev pub invariant-loop-receiver : goal.invariant-loop-receiver
invariant-loop-receiver g l = Replacing l.n l.set (λ q p. []) (rows l.fn.channels) (rows l.channels) l.sender l.receiver
