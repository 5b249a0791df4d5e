-- of these restarts the last one of the least member
use Rattle.fbl_judge.proofs.Common.{Position, StandsAt, cut_of}
use Rattle.fbl_judge.proofs.Restarts.{IsLastIn}
use Rattle.fbl_judge.proofs.named.last_restart.Given as goal

abbrev pub invariant-loop-restart : goal.invariant-loop-restart
invariant-loop-restart l = (j : Position) → StandsAt l.pasts.entries l.entry j → IsLastIn l.pasts (cut_of l.moment) j l.restarts l.restart-index l.least
