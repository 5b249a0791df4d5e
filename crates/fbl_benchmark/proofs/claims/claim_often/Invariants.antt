use Rattle.std.proofs.Common.{◌≡◌}
use Rattle.fbl_benchmark.proofs.claims.claim_often.Given as goal

abbrev pub invariant-loop : goal.invariant-loop
invariant-loop l = l.pass ≡ l.fn.claims
