use Rattle.fbl_input.proofs.Common.{◌∙◌, ap, option_map, string_bytes, sym, view}
use Rattle.fbl_input.proofs.Lists.{lent_bytes, unknown_key_of}
use Rattle.fbl_input.proofs.shapes.unknown_key_in.Goals as goal

pub returns : goal.returns
returns c =
    lent_bytes c.key_but_in.result ∙ ap (option_map string_bytes) (rw c.keys.ensures at c.key_but_in.ensures)
    ∙ unknown_key_of c.args.kind (view c.args.value.now) c.in_ok-as_object.field-0.now.entries (sym c.in_ok-as_object.ensures)
