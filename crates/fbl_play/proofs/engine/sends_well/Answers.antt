use Rattle.fbl_play.proofs.engine.sends_well.Goals as goal

pub returns : goal.returns
returns g c = g.met.B.Behaviour.laws.sends
