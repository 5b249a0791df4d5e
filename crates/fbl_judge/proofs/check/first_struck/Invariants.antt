-- of the candidates with a lesser member it is the first, and its orphan is one of these
use Rattle.fbl_judge.proofs.Common.{Position, Some, log_of, ◌<◌, ◌≡◌}
use Rattle.fbl_judge.specs.declared.check.Candidate.{Candidate}
use Rattle.fbl_runs.specs.Clocks.{StandsAt, cut_of}
use Rattle.fbl_runs.specs.Logs.{run_of}
use Rattle.fbl_judge.specs.Candidates.{IsFirstAmong, IsOfLesser}
use Rattle.fbl_judge.proofs.check.first_struck.Given as goal

abbrev pub invariant-loop-number : goal.invariant-loop-number
invariant-loop-number l = record {
  first : (i : Position) → StandsAt l.pasts.entries l.place i → IsFirstAmong (run_of l.pasts) i l.determinant (IsOfLesser (log_of l.pasts.entries) (cut_of l.view.base) l.number) l.first;
  below : (c : Candidate) → l.first ≡ Some c → c.orphan < l.number;
}
