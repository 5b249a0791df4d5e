use Rattle.fbl_pictures.proofs.Common.{◌≡◌, ◌++◌, ◌-◌, flat_map, range_with_len, moment_drawn, moment_shapes}
use Rattle.fbl_pictures.proofs.run.members.push_moment.Given as goal

abbrev pub invariant-loop-number : goal.invariant-loop-number
invariant-loop-number l =
    l.shapes.items ++ flat_map (moment_shapes l.window l.moment) (range_with_len l.number (l.members - l.number)) ≡ l.fn.shapes.items ++ moment_drawn l.members l.window l.moment
