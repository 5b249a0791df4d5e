use Rattle.fbl_pictures.proofs.Common.{ℕ, ◌<◌, ◌≡◌, None, StandsAt, get_or, length, log_of}
use Rattle.fbl_runs.specs.HappenedBefore.{Position}
use Rattle.fbl_runs.specs.Links.{IsMessageOf, IsPlaceOf}
use Rattle.fbl_pictures.proofs.run.arrows.sources_of.Given as goal

abbrev pub invariant-loop-place : goal.invariant-loop-place
invariant-loop-place l =
    (length l.sources.items ≡ l.place)
    × ((p : ℕ) (j : Position) → p < l.place → StandsAt l.pasts.entries p j → IsPlaceOf l.pasts.entries (IsMessageOf (log_of l.pasts.entries) j) (get_or l.sources.items p None))
