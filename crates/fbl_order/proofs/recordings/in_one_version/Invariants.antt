use Rattle.std.proofs.Common.{◌≡◌, ◌++◌}
use Rattle.std.specs.Vec.Iter.{into_iter_items}
use Rattle.fbl_order.specs.Recordings.{AreRecordings}
use Rattle.fbl_order.proofs.recordings.in_one_version.Given as goal

abbrev pub invariant-loop-recorded : goal.invariant-loop-recorded
invariant-loop-recorded l = AreRecordings l.yielded l.recordings × (l.yielded ++ into_iter_items l.recorded-iterator ≡ l.fn.files.items)
