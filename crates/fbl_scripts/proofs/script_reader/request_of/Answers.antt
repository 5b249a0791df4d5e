use Rattle.fbl_input.proofs.Unread.{known_only}
use Rattle.fbl_scripts.specs.Scripts.{outline_by, outline_of}
use Rattle.fbl_scripts.proofs.script_reader.request_of.Goals as goal

pub returns : goal.returns
unfolding outline_of outline_by
returns c =
    rw (c.in_ok-object_in.ensures, c.in_ok-version.ensures, c.in_ok-members.ensures, c.in_ok-f.ensures)
    (rw (c.in_ok-behaviour.ensures, c.in_ok-limit.ensures, c.in_ok-starts.ensures, c.in_ok-listed.ensures, c.in_ok-commands.ensures, known_only _ c.in_ok-no_other_key.ensures))
