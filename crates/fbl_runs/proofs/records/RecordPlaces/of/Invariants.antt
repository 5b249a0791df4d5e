use Rattle.fbl_runs.proofs.Common.{◌≤◌, length}
use Rattle.fbl_runs.specs.Records.{AreRecordPlaces}
use Rattle.fbl_runs.proofs.records.RecordPlaces.of.Given as goal

abbrev pub invariant-loop-place : goal.invariant-loop-place
invariant-loop-place l = record { within : l.place ≤ length l.entries; records : AreRecordPlaces l.entries l.place l.records }

abbrev pub decreases-loop-place : goal.decreases-loop-place
decreases-loop-place l = l.place
