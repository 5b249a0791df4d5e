use Rattle.fbl_pictures.proofs.Common.{◌≡◌, ◌++◌, drop, stub, drawn}
use Rattle.fbl_pictures.proofs.history.messages.push_stubs.Given as goal

abbrev pub invariant-loop-place : goal.invariant-loop-place
invariant-loop-place l = l.shapes.items ++ drawn (stub l.columns) l.place (drop l.place l.columns) ≡ l.initial.shapes.items ++ drawn (stub l.columns) 0 l.columns
