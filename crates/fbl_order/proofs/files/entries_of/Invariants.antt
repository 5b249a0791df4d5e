use Rattle.std.proofs.Common.{◌≡◌, flat_map, take}
use Rattle.fbl_order.proofs.files.entries_of.Given as goal

abbrev pub invariant-loop-file : goal.invariant-loop-file
invariant-loop-file l = l.entries.items ≡ flat_map (λ part. part.entries.items) (take l.file-index l.files)
