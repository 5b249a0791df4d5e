use Rattle.fbl_trace.proofs.Common.{arith}
use Rattle.fbl_trace.proofs.config.Config.new.Goals as goal

pub invariant_of-result : goal.invariant_of-result
invariant_of-result g c =
    rw c.in-Ok.ensures.items record {
      members = (omega arith, omega arith);
      f = (omega arith, omega arith);
      limit = (omega arith, omega arith);
      few_starts = omega arith;
      starts = c.in_default.ensures;
      room = omega arith;
    }

pub returns-in-Ok-clause-rules : goal.returns-in-Ok-clause-rules
returns-in-Ok-clause-rules g c = invariant_of-result g c
