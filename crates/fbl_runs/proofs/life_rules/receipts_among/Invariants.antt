use Rattle.fbl_runs.proofs.Common.{◌≡◌, take}
use Rattle.std.proofs.Common.{count_by}
use Rattle.fbl_runs.specs.Rules.{is_receipt}
use Rattle.fbl_runs.proofs.life_rules.receipts_among.Given as goal

abbrev pub invariant-loop-event : goal.invariant-loop-event
invariant-loop-event l = l.count ≡ count_by (λ e. is_receipt e.entry) (take l.event-index l.events)
