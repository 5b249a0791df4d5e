-- the parts so far, and those of the entries to come, are the line
use Rattle.fbl_pictures.proofs.Common.{None, ◌≡◌, ◌++◌, drop}
use Rattle.fbl_pictures.specs.RunShapes.{lives_parts}
use Rattle.fbl_pictures.proofs.run.members.push_lives.Given as goal

abbrev pub invariant-loop-place : goal.invariant-loop-place
invariant-loop-place l =
    l.shapes.items ++ lives_parts l.window l.member l.start l.last l.place (drop l.place l.entries) ≡ l.fn.shapes.items ++ lives_parts l.window l.member None None 0 l.entries
