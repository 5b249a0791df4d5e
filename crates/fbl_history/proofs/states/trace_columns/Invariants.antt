use Rattle.fbl_history.proofs.Common.{◌≡◌, map, take, HaveReplayed, event_column}
use Rattle.fbl_history.proofs.states.trace_columns.Given as goal

abbrev pub invariant-loop-place : goal.invariant-loop-place
invariant-loop-place g l = record {
  replayed : HaveReplayed g.B.Behaviour.next l.group l.place l.members.items;
  columns : l.columns.items ≡ map (event_column g.B.Behaviour.next l.group.config.members l.group.trace) (take l.place l.group.trace);
}
