-- the set is that of the members so far, and these and those of what is left are those of the list
use Rattle.fbl_input.proofs.Common.{◌≡◌, ℕ, List, map, drop, nat_cmp, view, all_shaped, member_shape}
use Rattle.std.specs.FinSet as set
use Rattle.fbl_input.proofs.Firsts.{With}
use Rattle.fbl_input.proofs.shapes.set_of.Given as goal

abbrev pub invariant-loop-value : goal.invariant-loop-value
invariant-loop-value l =
    (front : List ℕ) × (l.set ≡ set.from_list {R = nat_cmp} front) × (With view member_shape front (drop l.value-index l.list) ≡ all_shaped member_shape (map view l.list))
