use Rattle.fbl_records.specs.Logs.{log_of_data}
use Rattle.fbl_input.proofs.Unread.{known_only}
use Rattle.fbl_records.proofs.reader.raw_log_of.Goals as goal

pub returns : goal.returns
unfolding log_of_data
returns c =
    rw (c.in_ok-object_in.ensures, c.in_ok-value_field.ensures, c.in_ok-members.ensures, c.in_ok-f.ensures)
    (rw (c.in_ok-entries.ensures, c.in_ok-strike.ensures, known_only _ c.in_ok-no_other_key.ensures))
