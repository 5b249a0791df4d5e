use Rattle.std.proofs.lemmas.Result.{err_from_is_err_and}
use Rattle.fbl_verdicts.proofs.Common.{Err, Ok, refl, ap, ◌∙◌, IsAuditText, IsDumpFault, IsDumpOf, PutsOut, over_input}
use Rattle.fbl_input.proofs.Inputs.{over_fault}
use Rattle.std.proofs.lemmas.Option.{IfSome_then}
use Rattle.fbl_verdicts.proofs.audit_text.audit.Goals as goal

pub returns-in_err-dump : goal.returns-in_err-dump
returns-in_err-dump g c =
    let had = g.W.Write.contents c.args.writer.now in
    let known = g.R.Read.remaining c.args.reader.now in
    over_fault IsDumpOf IsDumpFault (λ dump. PutsOut (λ _. IsAuditText dump) had had) had known _ c.from_residual.result
    (IfSome_then known c.in_err-dump.ensures.fault (λ _ no. no.1.first)) c.from_residual.ensures.1

pub returns-in_err-write_dump_audit : goal.returns-in_err-write_dump_audit
returns-in_err-write_dump_audit g c =
    let had = g.W.Write.contents c.args.writer.now in
    let has = g.W.Write.contents c.write_dump_audit.new.writer in
    let failed = err_from_is_err_and c.from_residual-in_err-write_dump_audit.result c.from_residual-in_err-write_dump_audit.ensures.1 in
    over_input IsDumpOf IsDumpFault (λ dump. PutsOut (λ _. IsAuditText dump) had has) had has _ c.in_ok-dump.dump
    (Err c.in_err-write_dump_audit.field-0.0) _ c.in_ok-dump.ensures.dump c.in_err-write_dump_audit.ensures (failed.1 ∙ ap Err failed.2)

pub returns : goal.returns
returns g c =
    let had = g.W.Write.contents c.args.writer.now in
    let has = g.W.Write.contents c.write_dump_audit.new.writer in
    over_input IsDumpOf IsDumpFault (λ dump. PutsOut (λ _. IsAuditText dump) had has) had has _ c.in_ok-dump.dump
    (Ok tt) _ c.in_ok-dump.ensures.dump c.in_ok-write_dump_audit.ensures refl
