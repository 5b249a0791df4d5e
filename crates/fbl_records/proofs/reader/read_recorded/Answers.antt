use Rattle.fbl_records.proofs.Common.{IfSome}
use Rattle.fbl_records.specs.Logs.{IsNotRecorded}
use Rattle.fbl_input.proofs.Unread.{is_passed}
use Rattle.fbl_records.proofs.Records.{unread}
use Rattle.fbl_records.proofs.reader.read_recorded.Goals as goal

pub returns-in_err-read_input-clause-fault : goal.returns-in_err-read_input-clause-fault
returns-in_err-read_input-clause-fault g c =
    let known = g.R.Read.remaining c.args.reader.now in
    let fault = c.in_err-read_input.field-0.0 in
    is_passed (λ e. IfSome known (λ input. IsNotRecorded input e)) fault c.from_residual.result c.from_residual.ensures.1 (unread known fault c.in_err-read_input.ensures.unread.1)
