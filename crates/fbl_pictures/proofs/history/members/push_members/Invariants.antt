use Rattle.fbl_pictures.proofs.Common.{◌≡◌, ◌++◌, ◌-◌, flat_map, range_with_len, history_member_shapes, members_shapes}
use Rattle.fbl_pictures.proofs.history.members.push_members.Given as goal

abbrev pub invariant-loop-number : goal.invariant-loop-number
invariant-loop-number l =
    l.shapes.items ++ flat_map (history_member_shapes l.columns) (range_with_len l.number (l.members - l.number)) ≡ l.initial.shapes.items ++ members_shapes l.members l.columns
