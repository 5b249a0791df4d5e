use Rattle.fbl_runs.proofs.Common.{◌≤◌, length}
use Rattle.fbl_runs.specs.Receipts.{AreReceiptPlaces}
use Rattle.fbl_runs.proofs.receipts.ReceiptPlaces.of.Given as goal

abbrev pub invariant-loop-place : goal.invariant-loop-place
invariant-loop-place l = record { within : l.place ≤ length l.entries; receipts : AreReceiptPlaces l.entries l.place l.receipts }

abbrev pub decreases-loop-place : goal.decreases-loop-place
decreases-loop-place l = l.place
