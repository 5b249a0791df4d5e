use Rattle.fbl_runs.proofs.Common.{ℕ, List, Entry, ◌<◌, ◌≤◌, log_of}
use Rattle.fbl_runs.specs.KnownLives.{HasLived}
use Rattle.fbl_runs.specs.Rules.{IsSentInLife}
use Rattle.fbl_runs.proofs.life_rules.is_due.Given as goal

abbrev pub invariant-loop-number : goal.invariant-loop-number
invariant-loop-number l = (before : List Entry) → HasLived before l.lives → (number : ℕ) → l.end ≤ number → number < l.number → (k : ℕ) → ¬ (IsSentInLife (log_of before) l.from number l.to l.life k)
