use Rattle.fbl_law.proofs.Keeping.{recorded_test, checkpoint_is_recorded}
use Rattle.fbl_law.proofs.Promises.{sound_records_causes, sound_records_first}
use Rattle.fbl_law.proofs.laws.recorded_law.Goals as goal

pub returns : goal.returns
returns g c = search (recorded_test, checkpoint_is_recorded, sound_records_causes, sound_records_first)
