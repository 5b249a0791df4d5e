use Rattle.fbl_group.proofs.Common.{in-channels}
use Rattle.fbl_group.proofs.group.Group.front.Goals as goal

pub front-requires : goal.front-requires
front-requires g c = let places = in-channels c.self.invariant.shape (rw (← c.self.view_is) at c.requires.from) (rw (← c.self.view_is) at c.requires.to) in record { from = places.0; to = places.1 }
