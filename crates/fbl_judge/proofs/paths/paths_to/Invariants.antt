-- the paths so far, and paths to the rest, are paths to all
use Rattle.fbl_judge.proofs.Common.{List, ◌++◌, Position, StandsAt, cut_of}
use Rattle.fbl_judge.specs.Paths.{ArePathsFrom, DependsIn}
use Rattle.fbl_judge.specs.declared.paths.OrphanPath.{OrphanPath}
use Rattle.fbl_judge.proofs.paths.paths_to.Given as goal

abbrev pub invariant-loop-number : goal.invariant-loop-number
invariant-loop-number l = (i : Position) (rest : List OrphanPath) → StandsAt l.pasts.entries l.receipt i
    → ArePathsFrom l.pasts i (cut_of l.moment) (DependsIn l.pasts i (cut_of l.moment) l.members) l.number rest
    → ArePathsFrom l.pasts i (cut_of l.moment) (DependsIn l.pasts i (cut_of l.moment) l.members) 0 (l.paths.items ++ rest)
