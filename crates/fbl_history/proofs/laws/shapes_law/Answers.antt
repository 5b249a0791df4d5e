use Rattle.fbl_history.proofs.ShapeLaws.{has_arrow_from_its_send, is_dashed_while_down, marks_each_event}
use Rattle.fbl_history.proofs.laws.shapes_law.Goals as goal

pub returns : goal.returns
returns c = record {
  events = marks_each_event c.args.history.now;
  messages = has_arrow_from_its_send c.args.members c.args.history.now c.columns.ensures.sends;
  lines = is_dashed_while_down c.args.members c.args.history.now;
}
