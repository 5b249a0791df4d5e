use Rattle.fbl_group.proofs.Recovering.{◌≡◌, length, Putting}
use Rattle.fbl_group.proofs.recovery.rebuilt.Rebuilt.put_back.Given as goal

abbrev pub invariant-loop-number : goal.invariant-loop-number
invariant-loop-number g l = record {
  members : length l.members.items ≡ length l.initial.members.items;
  records : length l.records.items ≡ length l.initial.records.items;
  put : Putting (g.B.Behaviour.next.initial 0 0) l.down l.initial.records.items l.initial.members.items l.number l.members.items l.records.items;
}
