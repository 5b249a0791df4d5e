-- When a checkpoint is refused.
use Rattle.std.specs.Prelude.{◌≡◌, ℕ, ◌==◌, not, nat_lt, Option, Some, None, if◌then◌else◌}
use Rattle.std.specs.FinSet as set
use Rattle.fbl_law.specs.Groups.{GroupRecord}
use Rattle.fbl_group.specs.declared.refusals.CheckpointRefusal.{CheckpointRefusal}
use Rattle.fbl_group.specs.declared.refusals.CheckpointRefusal.TheVariants.{BadMember, Down, Memory}

-- the first refusal of a checkpoint of the member that holds, but for lack of memory
abbrev pub checkpoint_refusal : {S N : Type 0} → GroupRecord S N → ℕ → Option CheckpointRefusal
checkpoint_refusal r p = if not (nat_lt p r.config.members) then Some BadMember else (if not (set.len r.down == 0) then Some Down else None)

-- the refusal is the first that holds; lack of memory is answered only where no other holds
abbrev pub IsCheckpointRefusal : Option CheckpointRefusal → CheckpointRefusal → Type 0
IsCheckpointRefusal first Memory = first ≡ None
IsCheckpointRefusal first refusal = first ≡ Some refusal
