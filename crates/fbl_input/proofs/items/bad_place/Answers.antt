use Rattle.fbl_input.proofs.Common.{◌≡◌, ◌∙◌, sym, ap, view, not, option_and_then, map, get, name_of, as_list, Some, Data}
use Rattle.std.specs.Prelude.{Bool}
use Rattle.std.specs.List.{position}
use Rattle.fbl_input.proofs.Lists.{position_map}
use Rattle.fbl_input.specs.Items.{is_item}
use Rattle.fbl_input.proofs.items.bad_place.Goals as goal

pub returns : goal.returns
returns c =
    let test : Data → Bool = λ d. not (is_item c.args.kind c.args.key d) in
    let found : get (name_of c.args.key) (view c.args.value.now) ≡ Some (view c.in_ok-get.field-0.now) = sym (rw c.name.ensures at c.in_ok-get.ensures) in
    let list : as_list (view c.in_ok-get.field-0.now) ≡ Some (map view c.in_ok-list_in.field-0.now) = sym c.in_ok-list_in.ensures in
    c.other_place.ensures ∙ sym (position_map test view c.in_ok-list_in.field-0.now)
    ∙ sym (ap (λ o. option_and_then (position test) (option_and_then as_list o)) found ∙ ap (option_and_then (position test)) list)
