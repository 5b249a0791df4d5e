use Rattle.fbl_runs.proofs.Common.{List, Entry, Event, IsAt, Send, at, log_of}
use Rattle.fbl_runs.specs.KnownLives.{HasLived}
use Rattle.fbl_runs.proofs.DueLaws.{TakesAmong}
use Rattle.fbl_runs.proofs.life_rules.is_taken.Given as goal

abbrev pub invariant-loop-event : goal.invariant-loop-event
invariant-loop-event l = (before : List Entry) → HasLived before l.lives → IsAt (log_of before) (at l.from l.send) (Event (Send l.from l.ssn l.to)) → ¬ (TakesAmong (log_of before) l.from l.send l.event-items l.event-index)
