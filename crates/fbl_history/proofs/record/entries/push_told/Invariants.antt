use Rattle.std.proofs.Common.{◌≡◌, ◌++◌, map, take}
use Rattle.std.specs.Prelude.{filter}
use Rattle.fbl_runs.specs.declared.entry.Entry.TheVariants.{Told}
use Rattle.fbl_history.specs.Records.{is_between}
use Rattle.fbl_history.proofs.record.entries.push_told.Given as goal

abbrev pub invariant-loop-message : goal.invariant-loop-message
invariant-loop-message l = l.entries.items ≡ l.fn.entries.items ++ map Told (filter (is_between l.from l.to) (take l.message-index l.untold))
