use Rattle.fbl_trace.proofs.Common.{ℕ, ◌<◌, HeldAt, parts_of}
use Rattle.fbl_trace.proofs.dump.first_bad_pair.Given as goal

abbrev pub invariant-loop-place : goal.invariant-loop-place
invariant-loop-place l = (i : ℕ) → i < l.place → HeldAt (parts_of l.raw) i
