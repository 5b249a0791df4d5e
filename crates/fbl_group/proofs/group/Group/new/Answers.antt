use Rattle.fbl_group.proofs.Common.{refl, group_start_is_sound, get_or_default, ◌∙◌}
use Rattle.fbl_group.proofs.group.Group.new.Goals as goal

pub returns : goal.returns
returns g c = record {
  parameters = refl;
  trace = c.in_ok-trace.ensures.trace;
  shape = c.in_ok-trace.ensures.shape;
  channels = c.in_ok-trace.ensures.channels;
  size = c.in_ok-members.ensures.size;
  members = λ m below. get_or_default _ m _ _ (rw (← c.in_ok-members.ensures.size) at below) ∙ c.in_ok-members.ensures.fresh m below;
  checkpoints = c.in_ok-checkpoints.ensures.size;
  saved = λ m below. get_or_default _ m _ _ (rw (← c.in_ok-checkpoints.ensures.size) at below) ∙ c.in_ok-checkpoints.ensures.fresh m below;
  nobody_down = c.empty.ensures;
  receipts_ever = refl;
  undone_ever = refl;
}

pub invariant_of-result : goal.invariant_of-result
invariant_of-result g c = group_start_is_sound g.B.Behaviour.next c.args.config _ (rw (g.met.B.Behaviour.laws.starts, ← c.config.view_is) c.config.invariant) (returns g c)
