use Rattle.std.proofs.Common.{ℕ, ◌≡◌, ◌<◌, ◌≤◌, ◌⊎◌, get_or, length}
use Rattle.fbl_order.specs.Pieces.{life_at, member_at}
use Rattle.fbl_order.proofs.PieceLaws.{Rise}
use Rattle.fbl_order.proofs.pieces.stand_by_life.Given as goal

abbrev pub invariant-loop-place : goal.invariant-loop-place
invariant-loop-place l = record {
  rise : Rise l.entries l.lives l.place;
  least : (i : ℕ) → i < l.place → life_at l.lives i ≤ get_or l.latest (member_at l.entries i) 0;
  last : (q : ℕ) → (get_or l.latest q 0 ≡ 0) ⊎ ((i : ℕ) × (i < l.place) × (member_at l.entries i ≡ q) × (life_at l.lives i ≡ get_or l.latest q 0));
  room : length l.latest ≡ 16;
}
