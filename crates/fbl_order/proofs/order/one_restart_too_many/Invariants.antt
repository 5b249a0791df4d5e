use Rattle.fbl_order.proofs.Common.{◌≡◌, ◌≤◌, restarts, take}
use Rattle.fbl_order.proofs.order.one_restart_too_many.Given as goal

abbrev pub invariant-loop-place : goal.invariant-loop-place
invariant-loop-place l = record {
  count : l.count ≡ restarts (take l.place l.entries);
  few : l.count ≤ 8;
}
