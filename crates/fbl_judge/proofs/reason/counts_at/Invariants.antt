use Rattle.std.proofs.Common.{ℕ, ◌≡◌, ◌<◌, get_or, length}
use Rattle.fbl_judge.proofs.Common.{cut_of}
use Rattle.fbl_judge.proofs.reason.counts_at.Given as goal

abbrev pub invariant-loop-number : goal.invariant-loop-number
invariant-loop-number l = record {
  room : length l.counts ≡ 16;
  below : (q : ℕ) → q < l.number → get_or l.counts q 0 ≡ cut_of l.moment q;
}
