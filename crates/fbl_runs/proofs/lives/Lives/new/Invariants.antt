use Rattle.std.proofs.Common.{◌≡◌, ℕ, length, Some}
use Rattle.fbl_runs.proofs.Common.{slice_get}
use Rattle.fbl_runs.specs.declared.lives.KnownLog.{KnownLog}
use Rattle.fbl_runs.specs.declared.lives.Life.{Life}
use Rattle.fbl_runs.proofs.LivedLaws.{IsFirstLife, IsFirstLog}
use Rattle.fbl_runs.proofs.lives.Lives.new.Given as goal

abbrev pub invariant-loop-number : goal.invariant-loop-number
invariant-loop-number l = record {
  lives_count : length l.lives.items ≡ l.number;
  logs_count : length l.logs.items ≡ l.number;
  each_life : (q : ℕ) (x : Life) → slice_get l.lives.items q ≡ Some x → IsFirstLife q x;
  each_log : (q : ℕ) (x : KnownLog) → slice_get l.logs.items q ≡ Some x → IsFirstLog q x;
}
