use Rattle.fbl_pictures.proofs.Common.{ℕ, ◌≡◌, ◌==◌, Some, cond, drop, is_back}
use Rattle.std.specs.HashMap as hash_map
use Rattle.fbl_pictures.proofs.history.messages.note_replays.Given as goal

abbrev pub invariant-loop-replay : goal.invariant-loop-replay
invariant-loop-replay l = (q : ℕ)
    → cond (is_back q (drop l.replay-index l.replays)) (Some l.place) (hash_map.get ◌==◌ l.comebacks q)
    ≡ cond (is_back q l.replays) (Some l.place) (hash_map.get ◌==◌ l.initial.comebacks q)
