pub use Rattle.std.proofs.Common.{All, Bool, List, Vec, [], ap, append-nil, append_assoc, arith, cond, deque_capacity, deque_items, deque_len, drop, false, get_or, inr, length, map, refl, replicate, set, slice_index_or, suc, sym, take, true, vec_capacity, vec_len, ℕ, ◌*◌, ◌++◌, ◌+◌, drop_of_length-le}
pub use Rattle.fbl_law.proofs.Common.{◌-◌, ◌<◌, ◌||◌, ◌∙◌, ◌∷◌, ◌≡◌, ◌≤◌, ◌⊎◌, nat_tests, Members, Message}
pub use Rattle.std.proofs.lemmas.List.{get_or-map, get_or-set_other, get_or-set_same, length-map, length-set, map-append, map-set, set-get_or, replicate_more, at_drop_more, get_or-replicate}
pub use Rattle.std.specs.FinSet.{contains}
pub use Rattle.std.specs.Vec.{with_item}
pub use Rattle.std.specs.Vec.Iter.{into_iter_items}
pub use Rattle.std.specs.declared.collections.VecDeque.{VecDeque}
pub use Rattle.fbl_trace.specs.declared.trace.Event.{Event}
pub use Rattle.fbl_law.specs.Groups.{HasChannels, channel_in, sum_below}
pub use Rattle.fbl_channels.specs.Channels.{each, room_in, rooms, rows, send_of_message, value_of, with_at, with_sent}
pub use Rattle.fbl_channels.specs.declared.channels.Channels.{Channels}
pub use Rattle.fbl_law.proofs.Common.{IsConfig, IsOnce-none, Settings, StartAllowed, between, filter-append, filter_map, filter_map-append, get_or_past, is_on, message_of_send, slice_get-get_or, start_events}
pub use Rattle.fbl_trace.specs.declared.trace.Start.{Start}
pub use Rattle.fbl_trace.proofs.Common.{length-replicate}
