use Rattle.fbl_pictures.proofs.Common.{arith, entry_arrow}
use Rattle.fbl_pictures.proofs.Steps.{drawn_all, drawn_on}
use Rattle.fbl_pictures.proofs.run.arrows.push_arrows.Goals as goal

pub loop-place-preserved : goal.loop-place-preserved
loop-place-preserved c =
    let entries = c.args.entries.now in
    rw c.in_ok-push_arrow.ensures (drawn_on entries c.loop-place.place (entry_arrow c.args.window.now entries c.args.sources.now c.args.standing.now c.args.moment.now) _ _ c.loop-place.invariant _ (omega arith) c.index-entries-place.is)

pub returns : goal.returns
returns c = drawn_all c.args.entries.now c.loop-place.place (entry_arrow c.args.window.now c.args.entries.now c.args.sources.now c.args.standing.now c.args.moment.now) _ _ c.loop-place.invariant (omega arith)
