use Rattle.fbl_pictures.proofs.Common.{ℕ, ◌<◌, ◌≡◌, ◌↔◌, StandsAt, cut_of, false, get_or, length, log_of, true}
use Rattle.fbl_runs.specs.HappenedBefore.{Position}
use Rattle.fbl_runs.specs.Moments.{Stands}
use Rattle.fbl_pictures.proofs.run.standing.standing_of.Given as goal

abbrev pub invariant-loop-place : goal.invariant-loop-place
invariant-loop-place l =
    (length l.standing.items ≡ l.place)
    × ((p : ℕ) (i : Position) → p < l.place → StandsAt l.pasts.entries p i → (get_or l.standing.items p false ≡ true) ↔ Stands (log_of l.pasts.entries) (cut_of l.moment) i)
