use Rattle.fbl_trace.proofs.Common.{◌≡◌, ℕ, ◌<◌, ◌≤◌, false}
use Rattle.std.specs.FinSet as set
use Rattle.fbl_trace.proofs.member_set.MemberSet.outsider.Given as goal

abbrev pub invariant-loop-number : goal.invariant-loop-number
invariant-loop-number l = (k : ℕ) → l.n ≤ k → k < l.number → set.contains l.self k ≡ false
