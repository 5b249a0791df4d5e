use Rattle.fbl_member.proofs.Common.{◌≡◌, ◌+◌, ◌++◌, ◌≤◌, drop, length, All, vec_len, vec_capacity, piggybacked, messages_from, HasRoom}
use Rattle.fbl_member.proofs.buffers.Buffers.into_wires.Given as goal

abbrev pub invariant-loop-place : goal.invariant-loop-place
invariant-loop-place g l = record {
  so_far : l.wires.items ++ messages_from l.me (l.before + l.place) (piggybacked l.f l.table) (drop l.place l.sends) ≡ messages_from l.me l.before (piggybacked l.f l.table) l.sends;
  carried : All (λ wire. wire.carried ≡ piggybacked l.f l.table) l.wires.items;
  wires : vec_len l.wires ≡ l.place;
  wires_room : length l.sends ≤ vec_capacity l.wires;
  left : vec_len l.lists + l.place ≡ length l.sends;
  room : All (HasRoom (length (piggybacked l.f l.table))) l.lists.items;
}
