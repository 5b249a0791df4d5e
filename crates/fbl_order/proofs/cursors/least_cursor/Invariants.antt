use Rattle.fbl_order.proofs.Own.{IsLeastBelow}
use Rattle.fbl_order.proofs.cursors.least_cursor.Given as goal

abbrev pub invariant-loop-cursor : goal.invariant-loop-cursor
invariant-loop-cursor g l = IsLeastBelow (goal.F-post g l.may_come) l.fn.cursors l.end l.cursor-index l.least
