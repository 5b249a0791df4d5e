use Rattle.fbl_records.specs.Dumps.{parts_of_data}
use Rattle.fbl_records.proofs.dump_tokens.Fields.dump.Goals as goal

pub returns : goal.returns
unfolding parts_of_data
returns c = λ ms h.
    rw (← h.members, ← h.f, ← h.events, ← h.held, ← h.strike, h.others, c.in_ok-members.was, c.in_ok-f.was, c.in_ok-events.was, c.in_ok-held.was, c.in_ok-strike.was)
