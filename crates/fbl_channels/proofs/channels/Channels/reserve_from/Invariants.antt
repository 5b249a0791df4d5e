use Rattle.fbl_channels.proofs.Common.{◌≡◌, ℕ, ◌<◌, ◌≤◌, length, slice_index_or, rows, room_in}
use Rattle.fbl_channels.proofs.channels.Channels.reserve_from.Given as goal

abbrev pub invariant-loop-send : goal.invariant-loop-send
invariant-loop-send g l = record {
  same : rows l.self ≡ rows l.initial.self;
  room : (i : ℕ) (d : ℕ × _) → i < l.send-index → length l.sends ≤ room_in l.self l.from (slice_index_or l.sends i d).0;
}
