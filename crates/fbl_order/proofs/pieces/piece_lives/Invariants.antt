use Rattle.std.proofs.Common.{ℕ, ◌≡◌, ◌<◌, drop, get_or, length}
use Rattle.fbl_order.specs.Pieces.{life_of_piece}
use Rattle.fbl_order.proofs.pieces.piece_lives.Given as goal

abbrev pub invariant-loop-place : goal.invariant-loop-place
invariant-loop-place l = record {
  lives : (q : ℕ) → q < 16 → get_or l.lives q 0 ≡ life_of_piece q (drop l.place l.entries);
  room : length l.lives ≡ 16;
}
