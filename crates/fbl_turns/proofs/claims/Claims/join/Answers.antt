use Rattle.fbl_turns.proofs.Common.{rules, ap}
use Rattle.fbl_turns.proofs.Exclusion.{joins}
use Rattle.fbl_turns.proofs.claims.Claims.join.Goals as goal

pub join_seat-requires : goal.join_seat-requires
join_seat-requires c = (search rules, search rules, search rules, search rules, rw (ap (λ m. m.0) c.pass.invariant, ap (λ m. m.0) c.other.invariant) (joins _ _ _))
