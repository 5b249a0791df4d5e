use Rattle.std.proofs.Common.{◌≡◌, take}
use Rattle.std.specs.Prelude.{filter_map}
use Rattle.fbl_history.specs.Records.{standing_mark}
use Rattle.fbl_history.proofs.record.columns.standing_marks.Given as goal

abbrev pub invariant-loop-column : goal.invariant-loop-column
invariant-loop-column l = l.marks.items ≡ filter_map standing_mark (take l.column-index l.columns)
