use Rattle.fbl_history.proofs.Common.{◌≡◌, ◌≤◌, ◌++◌, drop, take, length, go_on}
use Rattle.fbl_history.proofs.history.undo_others.Given as goal

abbrev pub invariant-loop-column : goal.invariant-loop-column
invariant-loop-column l = record {
  within : l.kept ≤ length l.trace;
  before : go_on l.initial.column-items l.trace ≡ take l.column-index l.column-items ++ go_on (drop l.column-index l.column-items) (drop l.kept l.trace);
}
