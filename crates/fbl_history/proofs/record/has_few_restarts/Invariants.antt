use Rattle.std.proofs.Common.{◌≡◌, ◌≤◌, ◌+◌, drop}
use Rattle.std.specs.Prelude.{sum_by}
use Rattle.fbl_history.specs.Records.{restarts_of}
use Rattle.fbl_history.proofs.record.has_few_restarts.Given as goal

abbrev pub invariant-loop-column : goal.invariant-loop-column
invariant-loop-column l = record {
  few : l.restarts ≤ 8;
  counted : l.restarts + sum_by restarts_of (drop l.column-index l.columns) ≡ sum_by restarts_of l.columns;
}
