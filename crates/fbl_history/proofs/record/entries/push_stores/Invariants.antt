use Rattle.std.proofs.Common.{◌≡◌, ◌++◌}
use Rattle.fbl_history.specs.Records.{stores_from}
use Rattle.fbl_history.proofs.record.entries.push_stores.Given as goal

abbrev pub invariant-loop-place : goal.invariant-loop-place
invariant-loop-place l = l.entries.items ++ stores_from l.member l.place l.table ≡ l.fn.entries.items ++ stores_from l.member l.first l.table
