use Rattle.std.proofs.Common.{◌≡◌, ◌++◌, take}
use Rattle.fbl_order.specs.Pieces.{lives_in}
use Rattle.fbl_order.proofs.pieces.push_lives.Given as goal

abbrev pub invariant-loop-entry : goal.invariant-loop-entry
invariant-loop-entry l = l.lives.items ≡ l.initial.lives.items ++ take l.entry-index (lives_in l.entries)
