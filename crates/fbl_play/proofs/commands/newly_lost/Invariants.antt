use Rattle.fbl_play.proofs.Losses.{IsParted}
use Rattle.fbl_play.proofs.commands.newly_lost.Given as goal

abbrev pub invariant-loop-receipt : goal.invariant-loop-receipt
invariant-loop-receipt l = IsParted l.before l.after l.lost.items l.passed l.receipt-index
