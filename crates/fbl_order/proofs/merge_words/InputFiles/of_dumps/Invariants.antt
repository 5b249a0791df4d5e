use Rattle.std.proofs.Common.{◌≡◌, length, map, take}
use Rattle.fbl_order.proofs.merge_words.InputFiles.of_dumps.Given as goal

abbrev pub invariant-loop-dump : goal.invariant-loop-dump
invariant-loop-dump l = (l.files.names.now ≡ l.fn.names) × (l.files.events.items ≡ map (λ dump. length dump.events.items) (take l.dump-index l.fn.dumps))
