use Rattle.fbl_records.proofs.Common.{◌∙◌, IfOk-weaker, parts_of_data}
use Rattle.fbl_records.specs.DumpLines.{dump_data}
use Rattle.fbl_records.proofs.Values.{short_read}
use Rattle.fbl_records.proofs.lines.dump_text.Goals as goal

pub returns-clause-line : goal.returns-clause-line
returns-clause-line c =
    let is = c.in_ok-write_dump.ensures in
    IfOk-weaker c.line_of.result _ _ (λ text line. (line (dump_data c.args.dump.now) (rw c.new-out.ensures.tokens at is.written.tokens) is.reads_back.1).0) c.line_of.ensures

pub returns-clause-reads_back : goal.returns-clause-reads_back
returns-clause-reads_back c =
    let d = dump_data c.args.dump.now in
    let is = c.in_ok-write_dump.ensures in
    IfOk-weaker c.line_of.result _ _ (λ text line short. short_read parts_of_data _ d short (line d (rw c.new-out.ensures.tokens at is.written.tokens) is.reads_back.1).1 ∙ is.reads_back.0) c.line_of.ensures
