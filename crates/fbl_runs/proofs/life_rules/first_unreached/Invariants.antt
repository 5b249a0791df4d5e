use Rattle.fbl_runs.proofs.Common.{ℕ, ◌<◌, ◌↔◌}
use Rattle.fbl_runs.proofs.DueLaws.{ReachesAmong}
use Rattle.fbl_runs.proofs.life_rules.first_unreached.Given as goal

abbrev pub invariant-loop-event : goal.invariant-loop-event
invariant-loop-event l = (ssn : ℕ) → ReachesAmong l.from ssn l.event-items l.event-index ↔ (ssn < l.end)
