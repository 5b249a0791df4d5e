-- Whether a member outside the strike set holds a determinant, by the test.
use Rattle.std.proofs.Common.{ℕ, Bool, not, ◌&&◌, refl}
use Rattle.fbl_trace.proofs.Common.{Decides, arith, nat_tests, nat_cmp, Any-from_list_any, list_any-from_Any, and_parts, Parts}
use Rattle.std.proofs.lemmas.Bool.{not-true}
use Rattle.std.specs.FinSet as set
use Rattle.fbl_trace.proofs.RulesLaws.{Decides-same_determinant}
use Rattle.fbl_trace.specs.Events.{same_determinant}
use Rattle.fbl_trace.specs.declared.trace.Determinant.{Determinant}
use Rattle.fbl_trace.specs.Losses.{IsHeldOutside, is_held_outside}

abbrev holds_it : set.FinSet nat_cmp → Determinant → ℕ × Determinant → Bool
holds_it strike d h = not (set.contains strike h.0) && same_determinant h.1 d

pub Decides-is_held_outside : (dump : Parts) (d : Determinant) → Decides (is_held_outside dump d) (IsHeldOutside dump d)
Decides-is_held_outside dump d = (
  grind (arith, nat_tests, Any-from_list_any, and_parts, Decides-same_determinant, not-true),
  λ r. list_any-from_Any (holds_it dump.strike d) dump.held (r.1.0, (r.0, d), r.1.1, r.1.2, rw (r.2, (Decides-same_determinant d d).1 refl)),
)
