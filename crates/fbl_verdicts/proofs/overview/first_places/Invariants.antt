use Rattle.fbl_verdicts.proofs.OverviewLaws.{AreChosen}
use Rattle.fbl_verdicts.proofs.overview.first_places.Given as goal

abbrev pub invariant-loop-first : goal.invariant-loop-first
invariant-loop-first l = AreChosen l.pasts.entries l.first-items l.first-index l.places.items
