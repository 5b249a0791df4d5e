use Rattle.std.proofs.Common.{◌≡◌, ◌++◌}
use Rattle.fbl_history.specs.Records.{holds_from}
use Rattle.fbl_history.proofs.record.entries.push_holds.Given as goal

abbrev pub invariant-loop-place : goal.invariant-loop-place
invariant-loop-place l = l.entries.items ++ holds_from l.holder l.place l.table ≡ l.fn.entries.items ++ holds_from l.holder l.first l.table
