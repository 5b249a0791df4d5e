use Rattle.std.proofs.Common.{◌++◌, ◌∷◌, [], ap, append-nil, List, sym}
use Rattle.std.proofs.lemmas.List.{take_more}
use Rattle.std.proofs.lemmas.List.Elements.{filter_map-append}
use Rattle.fbl_trace.specs.declared.trace.Mark.{Mark}
use Rattle.fbl_history.specs.Records.{standing_mark}
use Rattle.fbl_history.proofs.record.columns.standing_marks.Goals as goal
use Rattle.fbl_history.proofs.record.columns.standing_marks.Goals.{in-Some+in_ok-push, in_default}

pub loop-column-preserved : goal.loop-column-preserved
loop-column-preserved c =
    let columns = c.args.columns.now in
    let column = c.column-item.result in
    elim c.match-standing_mark.branch [
      | in-Some+in_ok-push w ↦ rw (take_more columns c.loop-column.column-index column c.loop-column-test.true, ← c.column-item.is, filter_map-append standing_mark, w.marks-is, w.in_ok-push.ensures.items, sym w.in-Some.ensures)
          (ap (λ (t : List Mark). t ++ w.in-Some.mark ∷ []) c.loop-column.invariant)
      | in_default w ↦ rw (take_more columns c.loop-column.column-index column c.loop-column-test.true, ← c.column-item.is, filter_map-append standing_mark, w.marks-is, sym w.in_default.ensures, append-nil)
          c.loop-column.invariant
    ]
