use Rattle.fbl_runs.proofs.Common.{arith, ◌≡◌, ◌++◌, ◌∷◌, [], sym, ap, refl, List, Mark, length, Some, slice_get, slice_get_read, take_all}
use Rattle.fbl_runs.proofs.RunLaws.{marks-none, marks-some}
use Rattle.fbl_runs.proofs.lawful.marks_of.Goals as goal
use Rattle.fbl_runs.proofs.lawful.marks_of.Goals.{in-Some+in_ok-push, in_default}

pub loop-entry-preserved : goal.loop-entry-preserved
loop-entry-preserved c =
    let entries = c.args.entries.now in
    let p = c.loop-entry.entry-index in
    let here : slice_get entries p ≡ Some c.entry-item.result = slice_get_read entries (length entries) p c.entry-item.result refl (omega arith) c.entry-item.is in
    elim c.match-event.branch [
      | in-Some+in_ok-push w ↦ (rw (w.marks-is, w.in_ok-push.ensures.items, marks-some entries p c.entry-item.result w.in-Some.event here (sym w.in-Some.ensures)) (ap (λ (t : List Mark). t ++ w.in-Some.event ∷ []) c.loop-entry.invariant))
      | in_default w ↦ (rw (w.marks-is, marks-none entries p c.entry-item.result here (sym w.in_default.ensures)) c.loop-entry.invariant)
    ]

pub returns : goal.returns
returns c = rw (take_all c.loop-entry.entry-index c.args.entries.now c.loop-entry-test.false) at c.loop-entry.invariant
