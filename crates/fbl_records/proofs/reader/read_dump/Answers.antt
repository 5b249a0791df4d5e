use Rattle.fbl_records.proofs.Common.{◌≡◌, refl, sym, IfSome, None, Ok, parts_of, parts_of_data, parts_of_input}
use Rattle.std.proofs.lemmas.Option.{IfSome_then}
use Rattle.std.proofs.lemmas.Result.{IfErr-weaker}
use Rattle.fbl_input.specs.declared.input_kind.InputKind.TheVariants.{Dump}
use Rattle.fbl_input.proofs.Unread.{is_passed, misread, of_bytes, refused_known, unread}
use Rattle.fbl_records.proofs.Records.{dump_refused}
use Rattle.fbl_records.specs.Dumps.{BreaksParts, IsNoDump, RefusesParts}
use Rattle.fbl_records.proofs.reader.read_dump.Goals as goal

pub returns-in_err-bytes-clause-fault : goal.returns-in_err-bytes-clause-fault
returns-in_err-bytes-clause-fault g c =
    let known = g.R.Read.remaining c.args.reader.now in
    let fault = c.in_err-bytes.field-0.0 in
    let kind = c.in_err-bytes.ensures.unread.0 in
    is_passed (λ e. IfSome known (λ input. IsNoDump input e)) fault c.from_residual.result c.from_residual.ensures.1
    (IfSome_then known (unread parts_of_data RefusesParts BreaksParts (λ s breach. (tt, tt)) known fault c.in_err-bytes.ensures.unread.1) (λ input is. (kind, is)))

pub returns-in-Ok-clause-fault : goal.returns-in-Ok-clause-fault
returns-in-Ok-clause-fault g c =
    let known = g.R.Read.remaining c.args.reader.now in
    let dump = parts_of c.in-Ok.raw in
    let bytes = c.in_ok-bytes.bytes in
    let answer = c.dump_of.result in
    let is = of_bytes (λ input. (parts_of_input input ≡ Ok dump) × (bytes.items ≡ input)) known _ _ c.in_ok-bytes.ensures.whole c.as_slice.ensures.value (c.in-Ok.ensures, sym c.as_slice.ensures.value) in
    refused_known (λ input. (parts_of_input input ≡ Ok dump) × (bytes.items ≡ input)) IsNoDump known answer is
    (λ input of. IfErr-weaker answer _ _ (λ e. dump_refused input dump bytes.items e of.0 of.1) c.dump_of.ensures.fault)

pub returns-in-Err-clause-fault : goal.returns-in-Err-clause-fault
returns-in-Err-clause-fault g c =
    rw c.new.ensures (of_bytes (λ input. IsNoDump input (record { kind = Dump; fault = c.in-Err.fault; breach = None; input = c.in_ok-bytes.bytes })) _ _ _ c.in_ok-bytes.ensures.whole c.as_slice.ensures.value
    (refl, misread parts_of_data RefusesParts BreaksParts (λ s breach. (tt, tt)) Dump _ c.in-Err.fault c.in_ok-bytes.bytes c.in-Err.ensures (sym c.as_slice.ensures.value)))
