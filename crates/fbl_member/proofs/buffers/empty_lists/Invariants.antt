use Rattle.fbl_member.proofs.Common.{◌≡◌, All, vec_len, vec_capacity, HasRoom}
use Rattle.fbl_member.proofs.buffers.empty_lists.Given as goal

abbrev pub invariant-loop-place : goal.invariant-loop-place
invariant-loop-place l = record {
  len : vec_len l.lists ≡ l._place;
  capacity : vec_capacity l.lists ≡ vec_capacity l.initial.lists;
  room : All (HasRoom l.room) l.lists.items;
}
