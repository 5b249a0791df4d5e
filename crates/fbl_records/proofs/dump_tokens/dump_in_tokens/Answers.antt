use Rattle.fbl_records.proofs.Common.{◌∙◌, ap, json_read}
use Rattle.std.proofs.lemmas.Option.{IfSome_then}
use Rattle.json.specs.Lex.{tokens}
use Rattle.fbl_records.proofs.TokenLaws.{text_read}
use Rattle.fbl_records.proofs.dump_tokens.dump_in_tokens.Goals as goal

pub returns-in-None : goal.returns-in-None
returns-in-None c =
    let found = rw c.in-Some.is at c.in_ok-fields.ensures in
    let text = c.in-Ok.ensures.cases in
    let value = text_read c.args.input.now _ _ _ (c.in_ok-reader.ensures.ok ∙ ap tokens text.0) found.1 c.in-None.ensures.value.0 in
    IfSome_then c.dump.result c.dump.ensures (λ raw h. (found.0, json_read c.args.input.now _ text.1 value, found.2.version, h found.0 found.2))
