use Rattle.std.proofs.Common.{ℕ, ◌<◌}
use Rattle.fbl_order.specs.Files.{IsWithinAt}
use Rattle.fbl_order.proofs.files.first_outsider.Given as goal

abbrev pub invariant-loop-file : goal.invariant-loop-file
invariant-loop-file l = (k : ℕ) → k < l.file → IsWithinAt l.strikes l.members k
