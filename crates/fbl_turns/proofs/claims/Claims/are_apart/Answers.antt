use Rattle.fbl_turns.proofs.Common.{rules, ap, ◌≡◌, ◌∙◌, sym, Some}
use Rattle.fbl_turns.proofs.Exclusion.{splits, joins_none}
use Rattle.fbl_turns.proofs.claims.Claims.are_apart.Goals as goal

pub split_seat-spare-requires : goal.split_seat-spare-requires
split_seat-spare-requires c = (search rules, search rules, splits _ _ _)

-- both passes have the member, which the rule excludes
pub join_seat-requires : goal.join_seat-requires
join_seat-requires c =
    let same : c.one.inside.member ≡ c.other.inside.member = search rules in
    let one : c.split_seat-spare.new.seat.me.0 ≡ Some c.one.inside.member = ap (λ m. m.0) c.split_seat-spare.ensures.2 ∙ ap (λ m. m.0) c.one.invariant.0 in
    let other : c.replace-seat.result.me.0 ≡ Some c.one.inside.member = ap (λ s. s.me.0) c.replace-seat.ensures.value ∙ (ap (λ m. m.0) c.other.invariant.0 ∙ ap Some (sym same)) in
    (search rules, search rules, search rules, search rules, rw (one, other) (joins_none _ _ _ _ _ _))
