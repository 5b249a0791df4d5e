use Rattle.std.proofs.Common.{◌≡◌}
use Rattle.fbl_trace.specs.MemberSets.{members_where}
use Rattle.fbl_history.specs.Records.{is_gathered_from}
use Rattle.fbl_history.proofs.record.columns.sources.Given as goal

abbrev pub invariant-loop-number : goal.invariant-loop-number
invariant-loop-number g l = l.sources ≡ members_where l.number (is_gathered_from l.group)
