use Rattle.fbl_records.specs.Dumps.{parts_of_data}
use Rattle.fbl_input.proofs.Unread.{known_only}
use Rattle.fbl_records.proofs.reader.raw_dump_of.Goals as goal

pub returns : goal.returns
unfolding parts_of_data
returns c =
    rw (c.in_ok-object_in.ensures, c.in_ok-members.ensures, c.in_ok-f.ensures)
    (rw (c.in_ok-events.ensures, c.in_ok-held.ensures, c.in_ok-strike.ensures, known_only _ c.in_ok-no_other_key.ensures))
