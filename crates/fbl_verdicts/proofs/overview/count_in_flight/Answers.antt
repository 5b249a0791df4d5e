use Rattle.fbl_verdicts.proofs.Common.{◌∙◌, List, length, arith, ap, sym, false≢true}
use Rattle.fbl_runs.specs.declared.entry.Entry.{Entry}
use Rattle.fbl_judge.proofs.Places.{position_at}
use Rattle.fbl_verdicts.proofs.InFlightLaws.{in_flight_more, in_flight_same}
use Rattle.fbl_verdicts.proofs.overview.count_in_flight.Goals as goal
use Rattle.fbl_verdicts.proofs.overview.count_in_flight.Goals.{then-is_in_flight, else-is_in_flight}

pub loop-place-preserved : goal.loop-place-preserved
loop-place-preserved c =
    let es = c.args.pasts.now.entries in
    let p = c.loop-place.place in
    let old = c.loop-place.invariant in
    let most = old.within in
    let same = ap (λ (es : List Entry). length es) c.entries-place-end.ensures.entries in
    let below = c.loop-place-test.true in
    let i = position_at es p (omega (arith, same, below)) in
    elim c.if-is_in_flight.branch [
      | then-is_in_flight w ↦
          let is = (c.is_in_flight.ensures i.0 i.1).0 w.if-is_in_flight.true in
          rw w.count-is (record { within = omega (arith, most); counts = in_flight_more es p _ old.counts (i.0, i.1, is) })
      | else-is_in_flight w ↦ rw w.count-is (record {
        within = omega (arith, most);
        counts = in_flight_same es p _ old.counts (λ is. false≢true (sym w.if-is_in_flight.false ∙ (c.is_in_flight.ensures is.0 is.1).1 is.2));
      })
    ]
