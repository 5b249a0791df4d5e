use Rattle.fbl_pictures.proofs.Common.{◌≡◌, ◌++◌, map, strike_mark}
use Rattle.fbl_pictures.proofs.history.marks.push_strikes.Given as goal

abbrev pub invariant-loop-member : goal.invariant-loop-member
invariant-loop-member l = l.glyphs.items ≡ l.initial.glyphs.items ++ map (strike_mark l.column) l.yielded
