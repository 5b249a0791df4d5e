use Rattle.std.proofs.Common.{take}
use Rattle.fbl_runs.specs.Links.{AreChanged, undone_at}
use Rattle.fbl_runs.proofs.LifeLaws.{IsIn}
use Rattle.fbl_runs.proofs.links.Links.undo.Given as goal

abbrev pub invariant-loop-entry : goal.invariant-loop-entry
invariant-loop-entry l = AreChanged (λ p. IsIn (take l.entry-index l.fn.log.places.items) p) (undone_at l.fn.place) l.fn.self.links.items l.self.links.items
