use Rattle.std.proofs.Common.{◌≡◌, ◌++◌, [], if◌then◌else◌}
use Rattle.std.specs.Prelude.{slice_index}
use Rattle.std.specs.FinSet as set
use Rattle.fbl_history.specs.Records.{back_entries, each_member}
use Rattle.fbl_history.proofs.record.entries.push_backs.Given as goal

abbrev pub invariant-loop-number : goal.invariant-loop-number
invariant-loop-number g l =
    l.entries.items ≡ l.fn.entries.items ++ each_member (λ m. if set.contains l.members m then back_entries l.group (slice_index l.lives m) m else []) l.number
