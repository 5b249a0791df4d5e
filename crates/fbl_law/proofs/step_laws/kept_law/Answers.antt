use Rattle.fbl_law.proofs.WeightKept.{holds-of_sound}
use Rattle.fbl_law.proofs.step_laws.kept_law.Goals as goal

pub returns : goal.returns
returns g c r sound = holds-of_sound _ r _ _ sound (g.met.B.Keeping.keeps r.config sound.config) (g.met.B.Keeping.first r.config sound.config)
