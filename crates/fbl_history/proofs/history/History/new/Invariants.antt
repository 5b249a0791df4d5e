use Rattle.fbl_history.proofs.Common.{◌≡◌, length, start_columns, take}
use Rattle.fbl_history.proofs.history.History.new.Given as goal

abbrev pub invariant-loop-start : goal.invariant-loop-start
invariant-loop-start l = record {
  so_many : length l.columns.items ≡ l.start-index;
  made : l.columns.items ≡ start_columns (take l.start-index l.start-items);
}
