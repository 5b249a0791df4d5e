use Rattle.std.proofs.Common.{◌≡◌, length, map, take}
use Rattle.fbl_order.proofs.merge_words.InputFiles.of_logs.Given as goal

abbrev pub invariant-loop-log : goal.invariant-loop-log
invariant-loop-log l = (l.files.names.now ≡ l.fn.names) × (l.files.events.items ≡ map (λ log. length log.entries.items) (take l.log-index l.fn.logs))
