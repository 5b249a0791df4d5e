use Rattle.fbl_group.proofs.Common.{in-channels}
use Rattle.fbl_group.proofs.Reading.{◌∙◌, arith, channel_fits}
use Rattle.fbl_group.proofs.group.Group.in_flight.Goals as goal

pub between-requires : goal.between-requires
between-requires g c = let places = in-channels c.self.invariant.shape (rw (← c.self.view_is) at c.requires.from) (rw (← c.self.view_is) at c.requires.to) in record { from = places.0; to = places.1 }

pub overflow_cast-result : goal.overflow_cast-result
overflow_cast-result g c = grind (arith, channel_fits g.B.Behaviour.next _ c.self.invariant c.args.from c.args.to)

pub returns : goal.returns
returns g c = rw (← c.self.view_is, ← c.between.ensures) (c.len.ensures ∙ c.between.result.now.ok.0)
