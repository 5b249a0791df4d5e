use Rattle.std.proofs.Common.{◌≡◌, ◌++◌, map, take}
use Rattle.fbl_runs.specs.declared.entry.Entry.TheVariants.{Tell}
use Rattle.fbl_history.proofs.record.entries.push_tells.Given as goal

abbrev pub invariant-loop-message : goal.invariant-loop-message
invariant-loop-message l = l.entries.items ≡ l.fn.entries.items ++ map Tell (take l.message-index l.messages)
