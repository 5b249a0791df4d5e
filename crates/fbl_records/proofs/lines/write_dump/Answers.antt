use Rattle.std.proofs.lemmas.Result.{on_ok_weaker}
use Rattle.fbl_records.specs.DumpLines.{dump_data}
use Rattle.fbl_records.proofs.DumpValues.{dump_read}
use Rattle.fbl_records.proofs.Values.{next_written, token_written}
use Rattle.fbl_records.proofs.lines.write_dump.Goals as goal

pub returns-clause-written : goal.returns-clause-written
unfolding dump_data
returns-clause-written c =
    on_ok_weaker c.end_object.result (λ ok.
    rw (c.events.ensures.events, c.f.ensures, c.held.ensures, c.members-2.ensures, c.as_slice.ensures.value, c.in_ok-strike.ensures, c.strike.ensures) at
    (next_written (token_written c.begin_object.ensures c.in_ok-begin_object.ensures.ok) (next_written c.in_ok-write_field.ensures.written (next_written c.in_ok-write_number.ensures.written (next_written c.in_ok-write_field-2.ensures.written
    (next_written c.in_ok-write_number-2.ensures.written (next_written c.in_ok-write_field-3.ensures.written (token_written c.end_object.ensures ok)))))))) c.end_object.ensures.ok

pub returns-clause-reads_back : goal.returns-clause-reads_back
returns-clause-reads_back c =
    on_ok_weaker c.end_object.result (λ _. dump_read c.args.dump.now c.events.ensures.rules (rw c.events.ensures.events at c.in_ok-write_field.ensures.reads_back)
    (rw c.held.ensures at c.in_ok-write_field-2.ensures.reads_back) (rw (c.as_slice.ensures.value, c.in_ok-strike.ensures, c.strike.ensures) at c.in_ok-write_field-3.ensures.reads_back)) c.end_object.ensures.ok
