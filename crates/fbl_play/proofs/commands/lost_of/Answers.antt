use Rattle.fbl_play.proofs.Common.{arith, sym, ◌∙◌}
use Rattle.fbl_play.proofs.Losses.{nobody_lost}
use Rattle.fbl_play.proofs.commands.lost_of.Goals as goal

pub returns-then-count-eq0-clause-lost : goal.returns-then-count-eq0-clause-lost
returns-then-count-eq0-clause-lost g c =
    c.new.ensures.items
    ∙ sym (nobody_lost g.B.Behaviour.next c.args.group.now c.recoverable.ensures.sound (rw (← c.down.ensures.down) (omega (arith, c.if-count-eq0.true, c.count.ensures))))
