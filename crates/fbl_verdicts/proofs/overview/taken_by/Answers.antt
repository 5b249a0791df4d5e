use Rattle.fbl_verdicts.proofs.Common.{List, subst}
use Rattle.fbl_runs.specs.Clocks.{StandsAt}
use Rattle.fbl_runs.specs.Entries.{log_of}
use Rattle.fbl_runs.specs.HappenedBefore.{Position}
use Rattle.fbl_runs.specs.Links.{IsLink, IsMessageOf}
use Rattle.fbl_runs.specs.declared.entry.Entry.{Entry}
use Rattle.fbl_verdicts.proofs.InFlightLaws.{same_place}
use Rattle.fbl_verdicts.specs.Overviews.{TakesAtEnd}
use Rattle.fbl_verdicts.proofs.overview.taken_by.Goals as goal

pub returns-then-stands_at_end : goal.returns-then-stands_at_end
returns-then-stands_at_end c j at_j =
    let es = c.args.pasts.now.entries in
    let p = c.args.place in
    let link = subst (λ (es : List Entry). (j : Position) → StandsAt es p j → IsLink es j c.link.result) c.index.ensures c.link.ensures j at_j in
    let stands = (c.stands_at_end.ensures j at_j).0 c.if-stands_at_end.true in
    same_place es (IsMessageOf (log_of es) j) (TakesAtEnd (log_of es) j) c.link.result.message (λ i. (λ is. (is, stands), λ is. is.0)) link.message
