use Rattle.fbl_scripts.proofs.Common.{refl, sym, None, IfSome, BreaksScript, IsNoScript, IsRequestOf, RefusesScript, outline_of}
use Rattle.std.proofs.lemmas.Option.{IfSome_then}
use Rattle.fbl_input.specs.declared.input_kind.InputKind.TheVariants.{Script}
use Rattle.fbl_input.proofs.Unread.{is_passed, misread, of_bytes, refused_known, unread}
use Rattle.fbl_scripts.proofs.script_reader.read_script.Goals as goal

pub returns-in_err-input-clause-fault : goal.returns-in_err-input-clause-fault
returns-in_err-input-clause-fault g c =
    let known = g.R.Read.remaining c.args.reader.now in
    let fault = c.in_err-input.field-0.0 in
    let kind = c.in_err-input.ensures.unread.0 in
    is_passed (λ e. IfSome known (λ input. IsNoScript input e)) fault c.from_residual.result c.from_residual.ensures.1
    (IfSome_then known (unread outline_of RefusesScript BreaksScript (λ s breach. (tt, tt)) known fault c.in_err-input.ensures.unread.1) (λ input is. (kind, is)))

pub returns-in-Ok-clause-fault : goal.returns-in-Ok-clause-fault
returns-in-Ok-clause-fault g c =
    let known = g.R.Read.remaining c.args.reader.now in
    let request = c.in-Ok.request in
    let is = of_bytes (λ input. IsRequestOf input request c.in_ok-input.input.items) known _ _ c.in_ok-input.ensures.whole c.as_slice.ensures.value (c.in-Ok.ensures, sym c.as_slice.ensures.value) in
    refused_known (λ input. IsRequestOf input request c.in_ok-input.input.items) IsNoScript known c.script_of.result is c.script_of.ensures.fault

pub returns-in-Err-clause-fault : goal.returns-in-Err-clause-fault
returns-in-Err-clause-fault g c =
    rw c.new.ensures (of_bytes (λ input. IsNoScript input (record { kind = Script; fault = c.in-Err.fault; breach = None; input = c.in_ok-input.input })) _ _ _ c.in_ok-input.ensures.whole c.as_slice.ensures.value
    (refl, misread outline_of RefusesScript BreaksScript (λ s breach. (tt, tt)) Script _ c.in-Err.fault c.in_ok-input.input c.in-Err.ensures (sym c.as_slice.ensures.value)))
