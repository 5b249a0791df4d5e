use Rattle.fbl_verdicts.proofs.ForgottenLaws.{AreFound}
use Rattle.fbl_verdicts.proofs.forgotten.forgotten_of.Given as goal

abbrev pub invariant-loop-restart : goal.invariant-loop-restart
invariant-loop-restart l = AreFound l.pasts.entries l.reason l.all l.restart-index l.restarts.items
