use Rattle.fbl_play.proofs.Moments.{HasRun}
use Rattle.fbl_play.proofs.engine.run_commands.Given as goal

abbrev pub invariant-loop-command : goal.invariant-loop-command
invariant-loop-command g l =
    HasRun g.O.Observer.observes_before g.O.Observer.observes_after g.B.Behaviour.next l.workers l.fn.config l.commands (g.K.Transcribed.transcript l.fn.transcript) l.fn.observer l.command-index
    (record { group = l.group; transcript = g.K.Transcribed.transcript l.transcript }) l.observer
