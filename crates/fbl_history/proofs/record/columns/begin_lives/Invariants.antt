use Rattle.std.proofs.Common.{◌≡◌, ◌<◌, ◌+◌, ℕ, if◌then◌else◌, ◌&&◌, nat_lt}
use Rattle.std.specs.Prelude.{slice_index}
use Rattle.std.specs.FinSet as set
use Rattle.fbl_history.proofs.record.columns.begin_lives.Given as goal

abbrev pub invariant-loop-number : goal.invariant-loop-number
invariant-loop-number l = record {
  lives : (m : ℕ) → m < 16 → slice_index l.written.lives m ≡ (if nat_lt m l.number && set.contains l.members m then slice_index l.fn.written.lives m + 1 else slice_index l.fn.written.lives m);
  saved : (m : ℕ) → m < 16 → slice_index l.written.saved m ≡ (if nat_lt m l.number && set.contains l.members m then 0 else slice_index l.fn.written.saved m);
  untold : l.written.untold ≡ l.fn.written.untold;
  entries : l.written.entries ≡ l.fn.written.entries;
}
