use Rattle.std.proofs.Common.{arith, ap, length, refl}
use Rattle.fbl_group.proofs.group.Group.raw_dump.Goals as goal

pub held_pairs-requires : goal.held_pairs-requires
held_pairs-requires g c = omega (arith, ap length c.deref-2.ensures.value, c.self.invariant.members, c.self.invariant.config.members.1)

pub returns : goal.returns
returns g c = rw (← c.self.view_is, c.members.ensures.value, c.f.ensures, c.in_ok-marks.ensures, c.deref.ensures.value, c.in_ok-held_pairs.ensures, c.deref-2.ensures.value) refl
