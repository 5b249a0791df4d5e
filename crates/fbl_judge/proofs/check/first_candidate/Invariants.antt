-- of the candidates with the restarts of the views so far it is the first
use Rattle.fbl_judge.proofs.Common.{Position, log_of, take}
use Rattle.fbl_runs.specs.Clocks.{StandsAt}
use Rattle.fbl_runs.specs.Logs.{run_of}
use Rattle.fbl_judge.specs.Candidates.{IsFirstAmong, IsOfViews}
use Rattle.fbl_judge.proofs.check.first_candidate.Given as goal

abbrev pub invariant-loop-view : goal.invariant-loop-view
invariant-loop-view l =
    (i : Position) → StandsAt l.pasts.entries l.place i → IsFirstAmong (run_of l.pasts) i l.determinant (IsOfViews (log_of l.pasts.entries) (take l.view-index l.view-items)) l.first
