use Rattle.fbl_pictures.proofs.Common.{◌≡◌, ◌++◌, drop, drawn, entry_stub}
use Rattle.fbl_pictures.proofs.run.arrows.push_stubs.Given as goal

abbrev pub invariant-loop-place : goal.invariant-loop-place
invariant-loop-place l = l.shapes.items ++ drawn (entry_stub l.window l.sources l.standing l.moment) l.place (drop l.place l.entries) ≡ l.fn.shapes.items ++ drawn (entry_stub l.window l.sources l.standing l.moment) 0 l.entries
