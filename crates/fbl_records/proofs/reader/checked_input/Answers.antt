use Rattle.std.proofs.Common.{ap, ◌∙◌, Ok}
use Rattle.fbl_trace.specs.Dumps.{parts_of}
use Rattle.fbl_runs.specs.Logs.{parts_of_log}
use Rattle.fbl_input.proofs.Unread.{is_passed}
use Rattle.fbl_records.specs.Logs.{IsNotChecked}
use Rattle.fbl_runs.specs.Recordings.{recorded_parts}
use Rattle.fbl_runs.specs.declared.recording.Recording.TheVariants as parts
use Rattle.fbl_records.proofs.Records.{refused}
use Rattle.fbl_records.proofs.reader.checked_input.Goals as goal

pub returns-in_err-dump_of-in-Dump-clause-fault : goal.returns-in_err-dump_of-in-Dump-clause-fault
returns-in_err-dump_of-in-Dump-clause-fault c = λ bytes of.
    is_passed (IsNotChecked bytes) c.in_err-dump_of-in-Dump.field-0.0 c.from_residual.result c.from_residual.ensures.1
    (refused bytes (parts.Dump (parts_of c.in-Dump.raw)) c.args.input.bytes.items _ (of.0 ∙ ap Ok (ap recorded_parts c.in-Dump.is)) of.1 c.in_err-dump_of-in-Dump.ensures.fault)

pub returns-in_err-log_of-in-Log-clause-fault : goal.returns-in_err-log_of-in-Log-clause-fault
returns-in_err-log_of-in-Log-clause-fault c = λ bytes of.
    is_passed (IsNotChecked bytes) c.in_err-log_of-in-Log.field-0.0 c.from_residual-in_err-log_of-in-Log.result c.from_residual-in_err-log_of-in-Log.ensures.1
    (refused bytes (parts.Log (parts_of_log c.in-Log.raw)) c.args.input.bytes.items _ (of.0 ∙ ap Ok (ap recorded_parts c.in-Log.is)) of.1 c.in_err-log_of-in-Log.ensures.fault)
