use Rattle.fbl_pictures.proofs.Common.{◌≡◌, ◌++◌, drop, drawn, entry_arrow}
use Rattle.fbl_pictures.proofs.run.arrows.push_arrows.Given as goal

abbrev pub invariant-loop-place : goal.invariant-loop-place
invariant-loop-place l = l.shapes.items ++ drawn (entry_arrow l.window l.entries l.sources l.standing l.moment) l.place (drop l.place l.entries) ≡ l.fn.shapes.items ++ drawn (entry_arrow l.window l.entries l.sources l.standing l.moment) 0 l.entries
