use Rattle.fbl_runs.proofs.Common.{◌≡◌, take, marks}
use Rattle.fbl_runs.proofs.lawful.marks_of.Given as goal

abbrev pub invariant-loop-entry : goal.invariant-loop-entry
invariant-loop-entry l = l.marks.items ≡ marks (take l.entry-index l.entries)
