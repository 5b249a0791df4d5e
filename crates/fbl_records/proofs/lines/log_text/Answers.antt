use Rattle.fbl_records.proofs.Common.{◌∙◌, IfOk-weaker, refl}
use Rattle.fbl_records.specs.LogLines.{log_data}
use Rattle.fbl_records.proofs.LogValues.{recorded_read}
use Rattle.fbl_records.proofs.Records.{text_records}
use Rattle.fbl_records.proofs.lines.log_text.Goals as goal

pub returns-clause-line : goal.returns-clause-line
returns-clause-line c =
    let is = c.in_ok-write_log.ensures in
    IfOk-weaker c.line_of.result _ _ (λ text line. (line (log_data c.args.log.now) (rw c.new-out.ensures.tokens at is.written.tokens) is.reads_back.1).0) c.line_of.ensures

pub returns-clause-reads_back : goal.returns-clause-reads_back
unfolding log_data
returns-clause-reads_back c =
    let d = log_data c.args.log.now in
    let is = c.in_ok-write_log.ensures in
    IfOk-weaker c.line_of.result _ _ (λ text line judged short. text_records _ d short refl (line d (rw c.new-out.ensures.tokens at is.written.tokens) is.reads_back.1).1 ∙ recorded_read c.args.log.now (is.reads_back.0 judged)) c.line_of.ensures
