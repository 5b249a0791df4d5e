-- the paths so far, and those to the members to come, are the paths to all
use Rattle.fbl_pictures.proofs.Common.{List, ◌≡◌, ◌++◌, ◌-◌, range_with_len, ArePathsDrawn, Shape}
use Rattle.fbl_pictures.proofs.run.paths.push_paths.Given as goal

abbrev pub invariant-loop-number : goal.invariant-loop-number
invariant-loop-number l =
    (rest : List Shape) → ArePathsDrawn l.pasts l.window l.finding (range_with_len l.number (l.members - l.number)) rest
    → (paths : List Shape) × ArePathsDrawn l.pasts l.window l.finding (range_with_len 0 l.members) paths × (l.shapes.items ++ rest ≡ l.initial.shapes.items ++ paths)
