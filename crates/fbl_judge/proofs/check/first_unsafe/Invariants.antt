-- no receipt so far is unsafe
use Rattle.fbl_judge.proofs.Common.{Position, ℕ, ◌<◌}
use Rattle.fbl_runs.specs.Logs.{run_of}
use Rattle.fbl_judge.specs.Unsafe.{IsReceiptPlace, IsUnsafe}
use Rattle.fbl_judge.proofs.check.first_unsafe.Given as goal

abbrev pub invariant-loop-place : goal.invariant-loop-place
invariant-loop-place l = (p : ℕ) (i : Position) → p < l.place → IsReceiptPlace l.pasts p i → ¬ (IsUnsafe (run_of l.pasts) i)
