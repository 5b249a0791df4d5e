use Rattle.fbl_group.proofs.Common.{arith, sym, ap, ◌∙◌, determinant_of}
use Rattle.fbl_group.proofs.strike.lost.is_lost_receipt.Goals as goal

pub returns-after-is_likely_held : goal.returns-after-is_likely_held
returns-after-is_likely_held g c = rw (ap determinant_of (sym c.mark.ensures) ∙ sym c.in-Some.ensures) (grind arith)
