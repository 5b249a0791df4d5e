use Rattle.fbl_law.proofs.WeightKept.{weighs_no_less}
use Rattle.fbl_law.proofs.step_laws.none_lost_law.Goals as goal

pub returns : goal.returns
returns g c r sound =
    weighs_no_less _ r _ _ _ _ sound (g.met.B.Keeping.keeps r.config sound.config) (g.met.B.Keeping.first r.config sound.config)
    (g.met.B.LosingNone.loses_none r.config sound.config)
