-- the replays found and those of the members from the number on are all
use Rattle.fbl_history.proofs.Common.{◌≡◌, ◌++◌, ◌-◌, filter, map, range_with_len, replay_of, replays_of, slice_index}
use Rattle.std.specs.FinSet as set
use Rattle.fbl_history.proofs.turns.replays.Given as goal

abbrev pub invariant-loop-number : goal.invariant-loop-number
invariant-loop-number g l =
    l.replays.items ++ map (replay_of l.group (slice_index l.received)) (filter (set.contains l.members) (range_with_len l.number (16 - l.number)))
    ≡ replays_of l.group (slice_index l.received) l.members
