use Rattle.fbl_verdicts.proofs.Common.{ℕ, ◌≡◌, ◌<◌, Some}
use Rattle.std.proofs.Common.{slice_get}
use Rattle.fbl_verdicts.specs.Overviews.{HappenedBeforeAt}
use Rattle.fbl_verdicts.proofs.overview.is_first.Given as goal

abbrev pub invariant-loop-other : goal.invariant-loop-other
invariant-loop-other l = (member other : ℕ) → member < l.other-index → slice_get l.others member ≡ Some (Some other)
    → HappenedBeforeAt l.pasts.entries other l.place → other ≡ l.place
