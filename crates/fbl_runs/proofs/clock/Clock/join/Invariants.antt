use Rattle.std.proofs.Common.{◌≡◌, ◌<◌, ◌≤◌, ℕ, max, get_or, length}
use Rattle.fbl_runs.proofs.clock.Clock.join.Given as goal

abbrev pub invariant-loop-number : goal.invariant-loop-number
invariant-loop-number l = record {
  room : length l.self.counts ≡ 24;
  below : (q : ℕ) → q < l.number → get_or l.self.counts q 0 ≡ max (get_or l.fn.self.counts q 0) (get_or l.fn.other.counts q 0);
  above : (q : ℕ) → l.number ≤ q → get_or l.self.counts q 0 ≡ get_or l.fn.self.counts q 0;
}
