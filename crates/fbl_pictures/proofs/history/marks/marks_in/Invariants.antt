use Rattle.fbl_pictures.proofs.Common.{◌≡◌, ◌++◌, drop, column_marks, drawn}
use Rattle.fbl_pictures.proofs.history.marks.marks_in.Given as goal

abbrev pub invariant-loop-place : goal.invariant-loop-place
invariant-loop-place l = l.glyphs.items ++ drawn column_marks l.place (drop l.place l.columns) ≡ drawn column_marks 0 l.columns
