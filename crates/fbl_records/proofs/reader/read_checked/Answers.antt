use Rattle.fbl_records.specs.Logs.{IsNotChecked, IsRecordedOf}
use Rattle.fbl_records.proofs.Records.{form_fault}
use Rattle.std.proofs.Common.{IfSome}
use Rattle.std.proofs.lemmas.Option.{IfSome_then}
use Rattle.fbl_input.proofs.Unread.{is_passed, refused_known}
use Rattle.fbl_records.proofs.reader.read_checked.Goals as goal

pub returns-in_err-read_recorded-clause-fault : goal.returns-in_err-read_recorded-clause-fault
returns-in_err-read_recorded-clause-fault g c =
    let known = g.R.Read.remaining c.args.reader.now in
    let fault = c.in_err-read_recorded.field-0.0 in
    is_passed (λ e. IfSome known (λ input. IsNotChecked input e)) fault c.from_residual.result c.from_residual.ensures.1
    (IfSome_then known c.in_err-read_recorded.ensures.fault (λ input form. form_fault input fault form))

pub returns-clause-fault : goal.returns-clause-fault
returns-clause-fault g c =
    let found = c.in_ok-read_recorded.field-0 in
    refused_known (λ input. IsRecordedOf input found) IsNotChecked (g.R.Read.remaining c.args.reader.now) c.checked_input.result c.in_ok-read_recorded.ensures.parts c.checked_input.ensures.fault
