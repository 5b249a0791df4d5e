use Rattle.fbl_pictures.proofs.Common.{ℕ, ◌<◌, ◌≤◌, ◌≡◌, None, Some, column_in, cut_of, HasPassed, IsCrossing}
use Rattle.fbl_pictures.proofs.run.crossings.moment_columns.Given as goal

abbrev pub invariant-loop-place : goal.invariant-loop-place
invariant-loop-place l = HasPassed l.entries (cut_of l.cut) l.place l.pass

abbrev pub invariant-loop-number : goal.invariant-loop-number
invariant-loop-number l = record {
  found : (q : ℕ) → q < l.number → (column : ℕ) × (column_in l.columns q ≡ Some column) × IsCrossing l.entries (cut_of l.cut) l.pass.end q column;
  others : (q : ℕ) → l.number ≤ q → column_in l.columns q ≡ None;
}
