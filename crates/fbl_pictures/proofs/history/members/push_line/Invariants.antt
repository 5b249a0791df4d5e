use Rattle.fbl_pictures.proofs.Common.{◌≡◌, ◌++◌, None, drop, false, line_parts}
use Rattle.fbl_pictures.proofs.history.members.push_line.Given as goal

abbrev pub invariant-loop-place : goal.invariant-loop-place
invariant-loop-place l =
    l.shapes.items ++ line_parts l.member l.start l.is_down l.place (drop l.place l.columns)
    ≡ l.initial.shapes.items ++ line_parts l.member None false 0 l.columns
