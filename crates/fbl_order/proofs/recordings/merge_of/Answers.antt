use Rattle.fbl_trace.specs.Dumps.{parts_of}
use Rattle.fbl_runs.specs.Logs.{parts_of_log}
use Rattle.fbl_order.proofs.RecordingLaws.{same_fault}
use Rattle.fbl_order.specs.Recordings.{RefusesMerge}
use Rattle.fbl_order.specs.declared.recordings.MergeFault.TheVariants.{Files, Order}
use Rattle.fbl_order.specs.declared.recordings.Recordings.TheVariants.{Dumps, Logs}
use Rattle.fbl_order.proofs.recordings.merge_of.Goals as goal

pub returns-in_err-whole-in-Dumps-clause-refused : goal.returns-in_err-whole-in-Dumps-clause-refused
returns-in_err-whole-in-Dumps-clause-refused c =
    rw c.in-Dumps.is (same_fault (RefusesMerge (Dumps c.in-Dumps.dumps)) (Files c.in_err-whole-in-Dumps.field-0.0) c.from_residual.result c.from_residual.ensures.1
    (rw c.as_slice.ensures.value at c.in_err-whole-in-Dumps.ensures.refused))

pub returns-in_err-run-in-Dumps-clause-refused : goal.returns-in_err-run-in-Dumps-clause-refused
returns-in_err-run-in-Dumps-clause-refused c =
    let united = rw c.as_slice.ensures.value at c.in_ok-whole-in-Dumps.ensures.union in
    rw c.in-Dumps.is (same_fault (RefusesMerge (Dumps c.in-Dumps.dumps)) (Order c.in_err-run-in-Dumps.field-0.0) c.from_residual-in_err-run-in-Dumps.result
    c.from_residual-in_err-run-in-Dumps.ensures.1 (parts_of c.in_ok-whole-in-Dumps.whole, united, c.in_err-run-in-Dumps.ensures.refused))

pub returns-in_err-whole-in-Logs-clause-refused : goal.returns-in_err-whole-in-Logs-clause-refused
returns-in_err-whole-in-Logs-clause-refused c =
    rw c.in-Logs.is (same_fault (RefusesMerge (Logs c.in-Logs.logs)) (Files c.in_err-whole-in-Logs.field-0.0) c.from_residual-in_err-whole-in-Logs.result
    c.from_residual-in_err-whole-in-Logs.ensures.1 (rw c.as_slice-in-Logs.ensures.value at c.in_err-whole-in-Logs.ensures.refused))

pub returns-in_err-run-in-Logs-clause-refused : goal.returns-in_err-run-in-Logs-clause-refused
returns-in_err-run-in-Logs-clause-refused c =
    let united = rw c.as_slice-in-Logs.ensures.value at c.in_ok-whole-in-Logs.ensures.union in
    rw c.in-Logs.is (same_fault (RefusesMerge (Logs c.in-Logs.logs)) (Order c.in_err-run-in-Logs.field-0.0) c.from_residual-in_err-run-in-Logs.result
    c.from_residual-in_err-run-in-Logs.ensures.1 (
      parts_of_log c.in_ok-whole-in-Logs.whole.run,
      c.in_ok-whole-in-Logs.whole.places.items,
      united,
      c.in_err-run-in-Logs.ensures.refused,
    ))

pub returns-in_ok-run-in-Dumps-clause-merged : goal.returns-in_ok-run-in-Dumps-clause-merged
returns-in_ok-run-in-Dumps-clause-merged c =
    let united = rw c.as_slice.ensures.value at c.in_ok-whole-in-Dumps.ensures.union in
    let o = c.in_ok-run-in-Dumps.ensures in
    rw c.in-Dumps.is (parts_of c.in_ok-whole-in-Dumps.whole, united, record { rules = o.rules; parts = o.parts; order = o.order; given = o.places; kept = o.kept; answers = o.answers })

pub returns-in_ok-run-in-Logs-clause-merged : goal.returns-in_ok-run-in-Logs-clause-merged
returns-in_ok-run-in-Logs-clause-merged c =
    let united = rw c.as_slice-in-Logs.ensures.value at c.in_ok-whole-in-Logs.ensures.union in
    rw c.in-Logs.is (parts_of_log c.in_ok-whole-in-Logs.whole.run, c.in_ok-whole-in-Logs.whole.places.items, united, c.in_ok-run-in-Logs.ensures.ordered)
