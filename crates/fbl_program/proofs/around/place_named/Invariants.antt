-- none of the entries so far stands where the words say
use Rattle.fbl_program.proofs.Common.{ℕ, List, ◌<◌}
use Rattle.std.specs.Prelude.{◌≢◌}
use Rattle.fbl_runs.specs.Sources.{IsSpotText}
use Rattle.fbl_program.proofs.around.place_named.Given as goal

abbrev pub invariant-loop-place : goal.invariant-loop-place
invariant-loop-place l = (p : ℕ) → p < l.place → (spot : List ℕ) × IsSpotText l.sources p spot × (spot ≢ l.words)
