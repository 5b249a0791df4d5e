use Rattle.fbl_trace.proofs.Common.{◌≡◌, [], replicate}
use Rattle.fbl_trace.proofs.rules.Counts.new.Given as goal

abbrev pub invariant-loop : goal.invariant-loop
invariant-loop l = l.channels.items ≡ replicate l.counter []
