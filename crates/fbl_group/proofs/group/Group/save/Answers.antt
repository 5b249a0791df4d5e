use Rattle.fbl_group.proofs.Striking.{◌∙◌, arith, subst, IsSound, group_checkpoint_keeps, is_checkpoint}
use Rattle.fbl_group.proofs.group.Group.save.Goals as goal

pub returns-clause-saved : goal.returns-clause-saved
returns-clause-saved g c = is_checkpoint c.self.invariant c.self.view_is (c.from-place.ensures ∙ c.number.ensures.value) c.requires.below c.requires.nobody_down c.in_ok-copy.ensures c.index.ensures

pub invariant_of-self : goal.invariant_of-self
invariant_of-self g c = group_checkpoint_keeps _ _ g.B.Behaviour.next _ _ _ (returns-clause-saved g c) (subst (IsSound g.B.Behaviour.next) c.self.view_is c.self.invariant)

pub index-requires : goal.index-requires
index-requires g c = omega (arith, c.from-place.ensures, c.number.ensures.value, c.self.invariant.members, c.self.inside.members.ok.0, c.self.invariant.checkpoints, c.self.inside.checkpoints.ok.0, rw (← c.self.view_is) at c.requires.below)

pub index_mut-requires : goal.index_mut-requires
index_mut-requires g c = omega (arith, c.from-place.ensures, c.number.ensures.value, c.self.invariant.checkpoints, c.self.inside.checkpoints.ok.0, rw (← c.self.view_is) at c.requires.below)
