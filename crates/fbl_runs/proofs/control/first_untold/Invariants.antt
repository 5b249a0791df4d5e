use Rattle.fbl_runs.proofs.Common.{ℕ, ◌<◌, take}
use Rattle.fbl_runs.specs.ControlMessages.{HasTold, IsToldAt}
use Rattle.fbl_runs.proofs.control.first_untold.Given as goal

abbrev pub invariant-loop-place : goal.invariant-loop-place
invariant-loop-place l = record { told : HasTold (take l.place l.entries) l.known; good : (i : ℕ) → i < l.place → IsToldAt l.n l.entries i }
