use Rattle.fbl_runs.proofs.Common.{ℕ, ◌<◌, take}
use Rattle.fbl_runs.specs.LifeRules.{HasFollowed}
use Rattle.fbl_runs.specs.Rules.{FollowsAt}
use Rattle.fbl_runs.proofs.life_rules.first_life_fault.Given as goal

abbrev pub invariant-loop-place : goal.invariant-loop-place
invariant-loop-place l = record { followed : HasFollowed (take l.place l.entries) l.known; good : (i : ℕ) → i < l.place → FollowsAt l.n l.entries i }
