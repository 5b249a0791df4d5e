use Rattle.fbl_pictures.proofs.Common.{flat_map, sym, ap, ◌∙◌}
use Rattle.std.proofs.Common.{map-id}
use Rattle.std.proofs.lemmas.Iterator.{YieldsList-from_chars}
use Rattle.std.proofs.lemmas.Iterator.Consumers.{YieldsList-end}
use Rattle.fbl_pictures.specs.Headings.{escape}
use Rattle.fbl_pictures.proofs.headings.escaped_text.Goals as goal

pub returns : goal.returns
returns c =
    let all = YieldsList-end (YieldsList-from_chars c.args.text.now c.utf8.text cc) c.loop-character.yielded _ c.loop-character.yielded_by _ _ c.in-None.is c.next.ensures.steps in
    c.loop-character.invariant ∙ ap (flat_map escape) (sym (map-id c.loop-character.yielded) ∙ all.0)
