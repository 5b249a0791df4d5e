use Rattle.fbl_group.proofs.Striking.{◌∙◌, length, ap, arith, trace_fits, is_strike, strike_keeps, count-lost}
use Rattle.fbl_group.proofs.group.Group.strike.Goals as goal

pub invariant_of-self : goal.invariant_of-self
invariant_of-self g c =
    let allowed = rw (← c.self.view_is) at c.in_ok-allow_strike.ensures.allowed in
    let emptied = rw c.members-n.ensures.value at c.drop_at.ensures in
    strike_keeps g.B.Behaviour.next _ _ _ allowed (is_strike c.self.invariant allowed (rw c.members-n.ensures.value at c.blank_members.ensures) emptied c.union-self-inside.ensures) c.self.invariant

pub returns : goal.returns
returns g c =
    let allowed = (rw (← c.self.view_is) at c.in_ok-allow_strike.ensures.allowed) in
    let emptied = (rw c.members-n.ensures.value at c.drop_at.ensures) in
    let lost = (rw (c.deref.ensures.value, c.deref-2.ensures.value, c.deref-3.ensures.value) at c.count_lost.ensures) in
    record {
      struck = (c.in_ok-allow_strike.ensures.allowed, (rw (← c.self.view_is) (is_strike c.self.invariant allowed (rw c.members-n.ensures.value at c.blank_members.ensures) emptied c.union-self-inside.ensures), lost ∙ count-lost g.B.Behaviour.next _ c.promises-2.ensures.sound));
      refused = tt;
      unchanged = tt;
      no_orphan = c.promises-2.ensures.no_orphan;
      survivors = c.promises-2.ensures.survivors;
      first = c.promises-2.ensures.first;
      causes = c.promises-2.ensures.causes;
    }

pub count_lost-requires : goal.count_lost-requires
count_lost-requires g c = omega (arith, trace_fits g.B.Behaviour.next _ c.self.invariant, ap length c.deref-3.ensures.value)

pub blank_members-requires : goal.blank_members-requires
blank_members-requires g c = record { size = omega (arith, c.self.inside.members.ok.0, c.self.invariant.members, c.members-n.ensures.value); least = omega (arith, c.members-n.ensures.value, c.self.invariant.config.members.0); most = omega (arith, c.members-n.ensures.value, c.self.invariant.config.members.1) }

pub drop_at-requires : goal.drop_at-requires
drop_at-requires g c = record { shape = rw c.members-n.ensures.value c.self.invariant.shape; few = omega (arith, c.members-n.ensures.value, c.self.invariant.config.members.1) }
