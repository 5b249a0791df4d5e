use Rattle.fbl_channels.proofs.Common.{◌≡◌, ℕ, vec_len, vec_capacity, length, drop, [], rows, HasChannels, channel_in, between, message_of_send, start_events, filter_map}
use Rattle.fbl_channels.proofs.starts.send_starts.Given as goal

abbrev pub invariant-loop-start : goal.invariant-loop-start
invariant-loop-start g l = record {
  so_far : start_events l.trace.items (drop l.start-index l.start-items) ≡ start_events [] l.start-items;
  made : vec_len l.trace ≡ l.start-index;
  room : vec_capacity l.trace ≡ length l.start-items;
  shape : HasChannels l.config.members (rows l.channels);
  sent : (q p : ℕ) → channel_in (rows l.channels) q p ≡ between q p (filter_map message_of_send l.trace.items);
}
