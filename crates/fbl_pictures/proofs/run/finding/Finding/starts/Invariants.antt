use Rattle.fbl_pictures.proofs.Common.{ℕ, ◌<◌, column_in}
use Rattle.fbl_pictures.specs.RunShapes.{IsStart}
use Rattle.fbl_pictures.proofs.run.finding.Finding.starts.Given as goal

abbrev pub invariant-loop-number : goal.invariant-loop-number
invariant-loop-number l = (q : ℕ) → q < l.number → IsStart l.pasts l.self q (column_in l.starts q)
