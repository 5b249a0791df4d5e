use Rattle.fbl_turns.proofs.Common.{◌≡◌, rules}
use Rattle.fbl_turns.proofs.Exclusion.{gives_back}
use Rattle.fbl_turns.proofs.claims.Claims.release.Goals as goal

pub store-requires : goal.store-requires
store-requires c =
    let at : c.claim.inside.member ≡ c.from-place.result = search rules in
    (search rules, search rules, rw (c.claim.invariant.0, at) (gives_back _ _ _ _ (search rules)))
