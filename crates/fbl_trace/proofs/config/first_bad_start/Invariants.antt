use Rattle.fbl_trace.proofs.Common.{ℕ, ◌<◌, StartAllowedAt}
use Rattle.fbl_trace.proofs.config.first_bad_start.Given as goal

abbrev pub invariant-loop-place : goal.invariant-loop-place
invariant-loop-place g l = (i : ℕ) → i < l.place → StartAllowedAt g.N.Content.allowed l.members l.starts i
