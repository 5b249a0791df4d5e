use Rattle.fbl_runs.proofs.Common.{ℕ, ◌≡◌, ◌<◌, length, take}
use Rattle.fbl_runs.specs.Lawful.{ObeysAt, records}
use Rattle.fbl_runs.proofs.lawful.first_bad.Given as goal

abbrev pub invariant-loop-place : goal.invariant-loop-place
invariant-loop-place l = record {
  good : (i : ℕ) → i < l.place → ObeysAt l.members l.entries i;
  count : l.count ≡ length (records (take l.place l.entries));
}
