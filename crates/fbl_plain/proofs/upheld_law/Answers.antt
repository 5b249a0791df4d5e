use Rattle.fbl_plain.proofs.PlainRuns.{upheld}
use Rattle.fbl_plain.proofs.upheld_law.Goals as goal

pub returns : goal.returns
returns g c r sound = upheld _ r _ g.met.B.Behaviour.laws.sends sound (g.met.B.Upholding.law_first r.config sound.config) (g.met.B.Upholding.law_kept r.config sound.config)
