-- The words of refusals, as they are printed, and refusals of parts of a call as those of the call.
use Rattle.std.specs.Prelude.{ℕ, List, codes}
use Rattle.fbl_group.specs.declared.refusals.TakeRefusal.{TakeRefusal}
use Rattle.fbl_group.specs.declared.refusals.TakeRefusal.TheVariants as take
use Rattle.fbl_group.specs.declared.refusals.CommitRefusal.{CommitRefusal}
use Rattle.fbl_group.specs.declared.refusals.CommitRefusal.TheVariants as commit
use Rattle.fbl_group.specs.declared.refusals.DeliverRefusal.{DeliverRefusal}
use Rattle.fbl_group.specs.declared.refusals.DeliverRefusal.TheVariants as deliver
use Rattle.fbl_group.specs.declared.refusals.StrikeRefusal.{StrikeRefusal}
use Rattle.fbl_group.specs.declared.refusals.StrikeRefusal.TheVariants as strike
use Rattle.fbl_group.specs.declared.refusals.CrashRefusal.{CrashRefusal}
use Rattle.fbl_group.specs.declared.refusals.CrashRefusal.TheVariants as crash
use Rattle.fbl_group.specs.declared.refusals.CheckpointRefusal.{CheckpointRefusal}
use Rattle.fbl_group.specs.declared.refusals.CheckpointRefusal.TheVariants as checkpoint
use Rattle.fbl_group.specs.declared.refusals.RecoverRefusal.{RecoverRefusal}
use Rattle.fbl_group.specs.declared.refusals.RecoverRefusal.TheVariants as recover
use Rattle.fbl_group.specs.declared.refusals.DumpGroupRefusal.{DumpGroupRefusal}
use Rattle.fbl_group.specs.declared.refusals.DumpGroupRefusal.TheVariants as dump

-- a refusal of a ticket as one of a delivery
abbrev pub of_take : TakeRefusal → DeliverRefusal
of_take take.BadMember = deliver.BadMember
of_take take.Down = deliver.Down
of_take take.Empty = deliver.Empty

-- a refusal of the commit of a step whose ticket was just taken, as one of a delivery: there is no room, or no memory, since
-- nobody is down and nothing is stale then
abbrev pub of_commit : CommitRefusal → DeliverRefusal
of_commit commit.Memory = deliver.Memory
of_commit refusal = deliver.Full

-- a refusal of the strike as one of the crash
abbrev pub of_strike : StrikeRefusal → CrashRefusal
of_strike strike.BadMember = crash.BadMember
of_strike strike.Nobody = crash.Nobody
of_strike strike.TooMany = crash.TooMany

-- ---- the words of refusals, as they are printed

abbrev pub deliver_name : DeliverRefusal → List ℕ
deliver_name deliver.BadMember = codes "BadMember"
deliver_name deliver.Down = codes "Down"
deliver_name deliver.Empty = codes "Empty"
deliver_name deliver.Full = codes "Full"
deliver_name deliver.Memory = codes "Memory"

abbrev pub strike_name : StrikeRefusal → List ℕ
strike_name strike.BadMember = codes "BadMember"
strike_name strike.Nobody = codes "Nobody"
strike_name strike.TooMany = codes "TooMany"

abbrev pub checkpoint_name : CheckpointRefusal → List ℕ
checkpoint_name checkpoint.BadMember = codes "BadMember"
checkpoint_name checkpoint.Down = codes "Down"
checkpoint_name checkpoint.Memory = codes "Memory"

abbrev pub recover_name : RecoverRefusal → List ℕ
recover_name recover.NotDown = codes "NotDown"
recover_name recover.Memory = codes "Memory"

abbrev pub dump_group_name : DumpGroupRefusal → List ℕ
dump_group_name dump.BadStrike = codes "BadStrike"
dump_group_name dump.Memory = codes "Memory"
