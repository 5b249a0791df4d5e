use Rattle.fbl_order.proofs.Common.{◌≡◌, ◌≤◌, length, marks, take}
use Rattle.fbl_order.proofs.order.one_too_many.Given as goal

abbrev pub invariant-loop-place : goal.invariant-loop-place
invariant-loop-place l = record {
  count : l.count ≡ length (marks (take l.place l.entries));
  few : l.count ≤ 8192;
}
