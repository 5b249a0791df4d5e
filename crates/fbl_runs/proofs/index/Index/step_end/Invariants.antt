use Rattle.fbl_runs.proofs.Common.{ℕ, ◌≡◌, ◌<◌, Entry, Some, slice_get, IsRecord, log_of}
use Rattle.fbl_runs.proofs.index.Index.step_end.Given as goal

abbrev pub invariant-loop-next : goal.invariant-loop-next
invariant-loop-next l = (k : ℕ) → l.number < k → k < l.next → (e : Entry) × (slice_get (log_of l.self l.member) k ≡ Some e) × IsRecord e
