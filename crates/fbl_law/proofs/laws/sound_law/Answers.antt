use Rattle.fbl_law.proofs.GroupStart.{group_start_is_sound}
use Rattle.fbl_law.proofs.GroupDelivery.{group_delivery_keeps}
use Rattle.fbl_law.proofs.Keeping.{group_strike_keeps, group_checkpoint_keeps}
use Rattle.fbl_law.proofs.GroupRecovery.{group_recovery_keeps}
use Rattle.fbl_law.proofs.Runs.{run_is_sound}
use Rattle.fbl_law.proofs.laws.sound_law.Goals as goal

pub returns : goal.returns
returns g c = search (group_start_is_sound, group_delivery_keeps, group_strike_keeps, group_checkpoint_keeps, group_recovery_keeps, run_is_sound)
