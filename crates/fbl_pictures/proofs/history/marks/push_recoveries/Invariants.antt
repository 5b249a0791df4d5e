use Rattle.fbl_pictures.proofs.Common.{◌≡◌, ◌++◌, map, take, recovery_mark}
use Rattle.fbl_pictures.proofs.history.marks.push_recoveries.Given as goal

abbrev pub invariant-loop-member : goal.invariant-loop-member
invariant-loop-member l = l.glyphs.items ≡ l.initial.glyphs.items ++ map (recovery_mark l.column) (take l.member-index l.replays)
