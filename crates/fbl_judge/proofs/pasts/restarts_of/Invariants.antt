-- the places of the restarts so far
use Rattle.fbl_judge.proofs.Common.{ℕ, ◌≡◌, ◌<◌, Some, slice_get}
use Rattle.fbl_judge.specs.Pasts.{IsRestartPlace}
use Rattle.fbl_judge.proofs.pasts.restarts_of.Given as goal

abbrev pub invariant-loop-place : goal.invariant-loop-place
invariant-loop-place l =
    ((k place : ℕ) → slice_get l.places.items k ≡ Some place → IsRestartPlace l.entries place)
    × ((place : ℕ) → place < l.place → IsRestartPlace l.entries place → (k : ℕ) × (slice_get l.places.items k ≡ Some place))
