use Rattle.fbl_verdicts.proofs.Common.{◌≤◌}
use Rattle.fbl_verdicts.specs.Overviews.{CountsInFlight}
use Rattle.fbl_verdicts.proofs.overview.count_in_flight.Given as goal

abbrev pub invariant-loop-place : goal.invariant-loop-place
invariant-loop-place l = record { within : l.count ≤ l.place; counts : CountsInFlight l.pasts.entries l.place l.count }
