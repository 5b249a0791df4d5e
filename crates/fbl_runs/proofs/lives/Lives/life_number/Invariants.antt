use Rattle.std.proofs.Common.{ℕ, ◌<◌}
use Rattle.fbl_runs.specs.KnownLives.{IsLifeAt}
use Rattle.fbl_runs.proofs.lives.Lives.life_number.Given as goal

abbrev pub invariant-loop-number : goal.invariant-loop-number
invariant-loop-number l = (k : ℕ) → k < l.number → ¬ (IsLifeAt l.fn.self.lives.items k l.fn.member l.fn.life)
