use Rattle.fbl_order.proofs.Common.{arith}
use Rattle.std.proofs.lemmas.Grind.{common_steps}
use Rattle.fbl_order.proofs.Own.{least_found, least_none}
use Rattle.fbl_order.proofs.cursors.least_cursor.Goals as goal

pub loop-cursor-preserved : goal.loop-cursor-preserved
loop-cursor-preserved g c = grind (arith, common_steps)

pub returns-then-least-end : goal.returns-then-least-end
returns-then-least-end g c = least_found _ c.args.cursors c.args.end _ _ (omega arith) c.loop-cursor.invariant c.if-least-end.true

pub returns : goal.returns
returns g c = least_none _ c.args.cursors c.args.end _ _ (omega arith) c.loop-cursor.invariant c.if-least-end.false
