use Rattle.std.proofs.lemmas.Result.{on_ok_weaker}
use Rattle.fbl_records.specs.LogLines.{log_data}
use Rattle.fbl_records.proofs.LogValues.{log_read}
use Rattle.fbl_records.proofs.Values.{next_written, token_written}
use Rattle.fbl_records.proofs.lines.write_log.Goals as goal

pub returns-clause-written : goal.returns-clause-written
unfolding log_data
returns-clause-written c =
    on_ok_weaker c.end_object.result (λ ok.
    rw (c.entries.ensures.entries, c.f.ensures, c.members-2.ensures, c.as_slice.ensures.value, c.in_ok-strike.ensures, c.strike.ensures) at
    (next_written (token_written c.begin_object.ensures c.in_ok-begin_object.ensures.ok) (next_written c.in_ok-write_field.ensures.written (next_written c.in_ok-write_number.ensures.written (next_written c.in_ok-write_number-2.ensures.written
    (next_written c.in_ok-write_field-2.ensures.written (next_written c.in_ok-write_number-3.ensures.written (token_written c.end_object.ensures ok)))))))) c.end_object.ensures.ok

pub returns-clause-reads_back : goal.returns-clause-reads_back
returns-clause-reads_back c =
    on_ok_weaker c.end_object.result (λ _. log_read c.args.log.now c.entries.ensures.rules (rw c.entries.ensures.entries at c.in_ok-write_field.ensures.reads_back)
    (rw (c.as_slice.ensures.value, c.in_ok-strike.ensures, c.strike.ensures) at c.in_ok-write_field-2.ensures.reads_back)) c.end_object.ensures.ok
