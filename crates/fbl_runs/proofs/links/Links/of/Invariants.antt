use Rattle.fbl_runs.proofs.PassLaws.{HasLinks}
use Rattle.fbl_runs.proofs.links.Links.of.Given as goal

abbrev pub invariant-loop-place : goal.invariant-loop-place
invariant-loop-place l = HasLinks l.entries l.place l.lives l.links.links.items
