use Rattle.fbl_runs.proofs.Common.{arith, ◌≡◌, ◌∙◌, sym, refl, Some, length, slice_get, slice_get_read, nat_tests}
use Rattle.fbl_runs.proofs.RunLaws.{marks-is_none, marks-is_some}
use Rattle.fbl_runs.proofs.lawful.event_place.Goals as goal
use Rattle.fbl_runs.proofs.lawful.event_place.Goals.{then-is_some+else-count-event, else-is_some}

pub loop-place-preserved : goal.loop-place-preserved
loop-place-preserved c =
    let es = c.args.entries.now in
    let p = c.loop-place.place in
    let e = c.index-entries-place.result in
    let here : slice_get es p ≡ Some e = slice_get_read es (length es) p e refl c.loop-place-test.true c.index-entries-place.is in
    let old = c.loop-place.invariant in
    elim c.if-is_some.branch [
      | then-is_some+else-count-event w ↦
          let more = (marks-is_some es p e c.event.result here c.event.ensures (sym c.is_some.ensures ∙ w.if-is_some.true)).1 in
          record {
            few = grind (arith, nat_tests, old.few, w.count-is, w.if-count-event.false);
            below = (let b = old.below in let is = w.count-is in omega (arith, b, is));
            count = (let n = old.count in let is = w.count-is in omega (arith, n, is, more));
          }
      | else-is_some w ↦
          let same = marks-is_none es p e c.event.result here c.event.ensures (sym c.is_some.ensures ∙ w.if-is_some.false) in
          record {
            few = (let f = old.few in let is = w.count-is in omega (arith, f, is));
            below = (let b = old.below in let is = w.count-is in omega (arith, b, is));
            count = (let n = old.count in let is = w.count-is in omega (arith, n, is, same));
          }
    ]
