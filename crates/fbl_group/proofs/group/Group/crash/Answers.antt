use Rattle.fbl_group.proofs.Common.{inl, inr, table, down_or_up}
use Rattle.fbl_group.proofs.group.Group.crash.Goals as goal

-- the recovery takes no receipt that is left from anybody who held it before the strike: a survivor holds it still, and who is down gets it
pub returns-in-Ok-clause-holders : goal.returns-in-Ok-clause-holders
returns-in-Ok-clause-holders g c d m left holds =
    let gains = c.in-Ok.ensures.holders d m in
    elim (down_or_up c.strike.new.self.down m) [
      | inl is ↦ gains.1 (inr (is, ((c.in-Ok.ensures.restored.left.exactly d).0 left).1))
      | inr up ↦ gains.1 (inl (up, rw (c.in_ok-struck.ensures.struck.1.0.survivors m up, table) holds.1))
    ]

pub returns-in-Ok-clause-crashed : goal.returns-in-Ok-clause-crashed
returns-in-Ok-clause-crashed g c = (c.in_ok-struck.ensures.struck.0, (_, c.in_ok-struck.ensures.struck.1, c.in-Ok.ensures.recovered.1))

pub returns-in-Err : goal.returns-in-Err
returns-in-Err g c = record { crashed = tt; holders = tt; refused = (c.in_ok-struck.ensures.struck.0, (c.in_ok-struck.struck, rw c.in-Err.ensures.unchanged c.in_ok-struck.ensures.struck.1)) }
