use Rattle.std.proofs.Common.{take}
use Rattle.fbl_runs.specs.Links.{AreChanged, IsPlaceOfEvent, kept}
use Rattle.fbl_runs.proofs.links.Links.keep.Given as goal

abbrev pub invariant-loop-event : goal.invariant-loop-event
invariant-loop-event l = AreChanged (IsPlaceOfEvent l.fn.log.places.items (take l.event-index l.fn.log.standing.items)) kept l.fn.self.links.items l.self.links.items
