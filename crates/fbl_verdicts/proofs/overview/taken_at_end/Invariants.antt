use Rattle.fbl_verdicts.proofs.InFlightLaws.{AreTakenBelow}
use Rattle.fbl_verdicts.proofs.overview.taken_at_end.Given as goal

abbrev pub invariant-loop-place : goal.invariant-loop-place
invariant-loop-place l = AreTakenBelow l.pasts.entries l.place l.taken.items
