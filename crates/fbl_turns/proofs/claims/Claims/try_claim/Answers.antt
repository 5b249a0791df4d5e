use Rattle.fbl_turns.proofs.Common.{rules, arith, ◌≡◌}
use Rattle.fbl_turns.proofs.Exclusion.{takes}
use Rattle.fbl_turns.proofs.claims.Claims.try_claim.Goals as goal

pub compare_exchange-found-requires : goal.compare_exchange-found-requires
compare_exchange-found-requires c = (search rules, search rules, rw c.pass.invariant (takes _ _ _ _ (search rules)))

pub invariant_of-result : goal.invariant_of-result
invariant_of-result c =
    let free : c.compare_exchange-found.result ≡ 0 = omega arith in let at = rw free at c.compare_exchange-found.ensures.2 in
    (search rules, search rules)
