use Rattle.std.proofs.Common.{◌≡◌, take}
use Rattle.fbl_order.specs.Pieces.{lives_of}
use Rattle.fbl_order.proofs.pieces.lives_of.Given as goal

abbrev pub invariant-loop-file : goal.invariant-loop-file
invariant-loop-file l = l.lives.items ≡ lives_of (take l.file-index l.files)
