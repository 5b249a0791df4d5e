use Rattle.std.proofs.Common.{rules}
use Rattle.fbl_trace.specs.MemberSets.{members_where}
use Rattle.fbl_history.proofs.record.columns.sources.Goals as goal

pub loop-number-init : goal.loop-number-init
unfolding members_where
loop-number-init g c = search rules

pub loop-number-preserved : goal.loop-number-preserved
unfolding members_where
loop-number-preserved g c = search rules
