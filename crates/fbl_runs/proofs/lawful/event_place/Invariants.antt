use Rattle.fbl_runs.proofs.Common.{◌≡◌, ◌≤◌, length, marks, take}
use Rattle.fbl_runs.proofs.lawful.event_place.Given as goal

abbrev pub invariant-loop-place : goal.invariant-loop-place
invariant-loop-place l = record { few : l.count ≤ l.event; below : l.count ≤ l.place; count : l.count ≡ length (marks (take l.place l.entries)) }
