use Rattle.fbl_history.proofs.Common.{◌≡◌, ◌+◌, ◌++◌, drop, filter_map, send_column, step_events}
use Rattle.fbl_history.proofs.turns.add_step.Given as goal

abbrev pub invariant-loop-send : goal.invariant-loop-send
invariant-loop-send l = record {
  numbered : l.ssn ≡ l.initial.ssn + l.send-index;
  added :
      l.columns.items ++ filter_map send_column (step_events l.ticket.to l.ssn (drop l.send-index l.send-items))
      ≡ l.initial.columns.items ++ filter_map send_column (step_events l.ticket.to l.initial.ssn l.send-items);
}
