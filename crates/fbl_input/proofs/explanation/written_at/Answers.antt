use Rattle.fbl_input.proofs.Common.{◌≡◌, ℕ, refl, subst, Option, Some, None, option_and_then, value_view, Json, HasNumbers, HasNumbers-at, HasNumbers-get, Key, name_of}
use Rattle.fbl_input.specs.Explanations.{at_key, at_place}
use Rattle.fbl_input.proofs.explanation.written_at.Goals as goal

-- the numbers of a part are numbers, as those of the value are
key_has : (key : Option Key) (d part : Json) → HasNumbers d → Some part ≡ at_key key d → HasNumbers part
key_has None d part has is = (let same : d ≡ part = cc in subst HasNumbers same has)
key_has (Some key) d part has is = HasNumbers-get (name_of key) d part has is

place_has : (place : Option ℕ) (d part : Json) → HasNumbers d → Some part ≡ at_place place d → HasNumbers part
place_has None d part has is = (let same : d ≡ part = cc in subst HasNumbers same has)
place_has (Some place) d part has is = HasNumbers-at place d part has is

part_has : (place : Option ℕ) (list : Option Json) (part : Json) → ((j : Json) → Some j ≡ list → HasNumbers j) → Some part ≡ option_and_then (at_place place) list → HasNumbers part
part_has place None part has is = absurd cc
part_has place (Some j) part has is = place_has place j part (has j refl) is

pub text_of-requires : goal.text_of-requires
text_of-requires c =
    let d = value_view c.in-Ok.value in
    part_has c.args.place (at_key c.args.key d) _ (λ j e. key_has c.args.key d j c.in-Ok.ensures.writable e) c.in-Some.ensures
