use Rattle.fbl_group.proofs.Common.{◌≡◌, take, IfSome, piggybacked, resent}
use Rattle.fbl_group.proofs.recovery.resend.put_again.Given as goal

abbrev pub invariant-loop-send : goal.invariant-loop-send
invariant-loop-send g l = record {
  so_far : l.wires.items ≡ resent l.from l.to (piggybacked l.f l.table) (take l.send-index l.unsent);
  passed : IfSome l.passed (λ carried. carried ≡ piggybacked l.f l.table);
}
