use Rattle.fbl_group.proofs.Reading.{arith, held_fits}
use Rattle.fbl_group.proofs.group.Group.held.Goals as goal

pub overflow_cast-result : goal.overflow_cast-result
overflow_cast-result g c = grind (arith, held_fits g.B.Behaviour.next c.args.self.now c.record.ensures.sound c.args.member)

pub returns : goal.returns
returns g c = rw (c.table.ensures, c.record.ensures.value) at c.len.ensures.len
