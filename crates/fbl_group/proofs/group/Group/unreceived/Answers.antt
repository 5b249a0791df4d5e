use Rattle.fbl_group.proofs.Reading.{◌∙◌, ap, arith, GroupRecord, received-twice, unreceived-fly}
use Rattle.std.specs.FinSet as set
use Rattle.fbl_group.proofs.group.Group.unreceived.Goals as goal

pub overflow_mul-result : goal.overflow_mul-result
overflow_mul-result g c = grind (arith, c.self.view_is, received-twice g.B.Behaviour.next _ c.self.invariant)

pub overflow_sub-result : goal.overflow_sub-result
overflow_sub-result g c = grind (arith, c.self.view_is, received-twice g.B.Behaviour.next _ c.self.invariant)

pub returns : goal.returns
returns g c nobody = grind (arith, c.self.view_is, unreceived-fly g.B.Behaviour.next _ c.self.invariant (ap (λ (r : GroupRecord _ _). set.len r.down) c.self.view_is ∙ nobody))
