use Rattle.fbl_pictures.proofs.Common.{◌≡◌, ◌++◌, ◌-◌, flat_map, range_with_len, members_drawn, shapes_of_member}
use Rattle.fbl_pictures.proofs.run.members.push_members.Given as goal

abbrev pub invariant-loop-number : goal.invariant-loop-number
invariant-loop-number l =
    l.shapes.items ++ flat_map (shapes_of_member l.window l.entries l.lines) (range_with_len l.number (l.members - l.number)) ≡ l.fn.shapes.items ++ members_drawn l.members l.window l.entries l.lines
