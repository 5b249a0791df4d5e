use Rattle.fbl_threads.proofs.Common.{arith}
use Rattle.fbl_threads.proofs.scope.+run_workers.Goals as goal

pub with-requires : goal.with-requires
with-requires g t c = record { claims = c.args.work.now.claims_are; fits = omega arith }

pub returns : goal.returns
returns g t c = omega arith
