use Rattle.fbl_channels.proofs.Queues.{◌≡◌, ◌+◌, ◌≤◌, ◌++◌, length, map, vec_len, vec_capacity, into_iter_items, rows, rooms, with_sent, send_of_message, Sending}
use Rattle.fbl_channels.proofs.channels.Channels.send_all.Given as goal

abbrev pub invariant-loop-wire : goal.invariant-loop-wire
invariant-loop-wire g l = record {
  sending : Sending l.from (with_sent (rows l.fn.self) l.from l.fn.wires.items) (into_iter_items l.wire-iterator) (rows l.self) (rooms l.self);
  trace : l.trace.items ++ map send_of_message (into_iter_items l.wire-iterator) ≡ l.fn.trace.items ++ map send_of_message l.fn.wires.items;
  trace_room : vec_len l.trace + length (into_iter_items l.wire-iterator) ≤ vec_capacity l.trace;
}
