use Rattle.std.proofs.Common.{take}
use Rattle.fbl_history.specs.Records.{RecordsAll, so_far}
use Rattle.fbl_history.proofs.record.columns.add_all.Given as goal

abbrev pub invariant-loop-column : goal.invariant-loop-column
invariant-loop-column g l =
    RecordsAll g.B.Behaviour.next (so_far l.fn.group l.fn.written) (take l.column-index l.columns) (so_far l.group l.written)
