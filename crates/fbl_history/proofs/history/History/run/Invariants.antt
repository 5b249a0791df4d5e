use Rattle.fbl_history.proofs.Common.{take, IsAfterTurns}
use Rattle.fbl_history.proofs.history.History.run.Given as goal

abbrev pub invariant-loop-turn : goal.invariant-loop-turn
invariant-loop-turn g l = IsAfterTurns g.B.Behaviour.next l.group (take l.turn-index l.turns) l.initial.columns.items l.columns.items
