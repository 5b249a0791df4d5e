use Rattle.std.proofs.Common.{◌≡◌, ◌++◌, ◌+◌, ◌*◌, map}
use Rattle.std.specs.List.{range_with_len}
use Rattle.fbl_history.specs.declared.shape.Shape.TheVariants.{Name}
use Rattle.fbl_pictures.proofs.names.push_names.Given as goal

abbrev pub invariant-loop-group : goal.invariant-loop-group
invariant-loop-group l = l.shapes.items ≡ l.initial.shapes.items ++ map (λ group. Name (24 * (group + 1)) l.member) (range_with_len 0 l.group)
