use Rattle.std.proofs.Common.{◌≡◌, filter, take}
use Rattle.fbl_runs.specs.Rules.{is_send}
use Rattle.fbl_runs.proofs.lives.KnownLog.sends.Given as goal

abbrev pub invariant-loop-event : goal.invariant-loop-event
invariant-loop-event l = l.sends.items ≡ filter (λ e. is_send e.entry) (take l.event-index l.fn.self.standing.items)
