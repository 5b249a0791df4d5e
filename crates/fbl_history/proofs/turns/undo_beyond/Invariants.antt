use Rattle.fbl_history.proofs.Common.{◌≡◌, ◌++◌, drop, map, take, slice_index, undone_beyond}
use Rattle.fbl_history.proofs.turns.undo_beyond.Given as goal

abbrev pub invariant-loop-column : goal.invariant-loop-column
invariant-loop-column l =
    map (undone_beyond (slice_index l.received) (slice_index l.sent)) l.initial.columns
    ≡ take l.column-index l.columns ++ map (undone_beyond (slice_index l.received) (slice_index l.sent)) (drop l.column-index l.columns)
