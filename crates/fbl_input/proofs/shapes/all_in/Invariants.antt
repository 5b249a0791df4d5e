-- the ones so far and those of what is left are those of the list
use Rattle.fbl_input.proofs.Common.{◌≡◌, map, drop, view, all_shaped}
use Rattle.fbl_input.proofs.Firsts.{With}
use Rattle.fbl_input.proofs.shapes.all_in.Given as goal

abbrev pub invariant-loop-value : goal.invariant-loop-value
invariant-loop-value g l = With view g.S.JsonShape.shape l.all.items (drop l.value-index l.list) ≡ all_shaped g.S.JsonShape.shape (map view l.list)
