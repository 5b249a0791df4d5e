use Rattle.fbl_turns.proofs.Common.{rules, ap}
use Rattle.fbl_turns.proofs.Exclusion.{splits}
use Rattle.fbl_turns.proofs.claims.Claims.split.Goals as goal

pub split_seat-other-requires : goal.split_seat-other-requires
split_seat-other-requires c = (search rules, search rules, rw (ap (λ m. m.0) c.pass.invariant) (splits _ _ _))
