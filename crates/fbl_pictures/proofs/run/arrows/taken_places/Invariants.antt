use Rattle.fbl_pictures.proofs.Common.{ℕ, ◌≡◌, ◌||◌, drop, list_any}
use Rattle.std.specs.HashSet as hash_set
use Rattle.std.specs.Prelude.{nat_eq}
use Rattle.fbl_pictures.specs.RunShapes.{is_place, is_taken}
use Rattle.fbl_pictures.proofs.run.arrows.taken_places.Given as goal

abbrev pub invariant-loop-source : goal.invariant-loop-source
invariant-loop-source l = (p : ℕ) → (hash_set.contains nat_eq l.taken p || list_any (is_place p) (drop l.source-index l.sources)) ≡ is_taken l.sources p
