use Rattle.fbl_law.proofs.Common.{knowledge}
use Rattle.fbl_law.proofs.Safe.{IsAlwaysHeld-closed, no_orphan}
use Rattle.fbl_law.proofs.Keeping.{strike_keeps}
use Rattle.fbl_law.proofs.Promises.{any_survivors_hold, sound_holds_each_receipt}
use Rattle.fbl_law.proofs.laws.no_orphan_law.Goals as goal

pub returns : goal.returns
returns g c = record {
  tables = sound_holds_each_receipt _ _;
  holders = λ next r sound. IsAlwaysHeld-closed r.config.f (knowledge r) sound.causes.down sound.causes.closed;
  sound = λ next r sound. no_orphan r.config.f (knowledge r) sound.causes.closed;
  struck = λ next old new struck m sound s few. no_orphan old.config.f (knowledge new) (strike_keeps next old new struck s few sound).closed m;
  recorded = λ next r sound s. any_survivors_hold r.config.members r.config.f (knowledge r) s sound.causes;
}
