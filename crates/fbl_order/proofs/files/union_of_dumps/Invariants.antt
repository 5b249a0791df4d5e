use Rattle.std.proofs.Common.{◌≡◌, flat_map, take}
use Rattle.fbl_order.proofs.files.union_of_dumps.Given as goal

abbrev pub invariant-loop-file : goal.invariant-loop-file
invariant-loop-file l = record {
  events : l.events.items ≡ flat_map (λ part. part.events.items) (take l.file-index l.files);
  held : l.held.items ≡ flat_map (λ part. part.held.items) (take l.file-index l.files);
}
