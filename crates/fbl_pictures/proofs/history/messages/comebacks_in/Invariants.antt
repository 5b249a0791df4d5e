use Rattle.fbl_pictures.proofs.Common.{ℕ, ◌≡◌, ◌==◌, back_before}
use Rattle.std.specs.HashMap as hash_map
use Rattle.fbl_pictures.proofs.history.messages.comebacks_in.Given as goal

abbrev pub invariant-loop-place : goal.invariant-loop-place
invariant-loop-place l = (q : ℕ) → hash_map.get ◌==◌ l.comebacks q ≡ back_before l.columns l.place q
