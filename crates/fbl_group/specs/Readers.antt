-- What the readers of a group answer.
use Rattle.std.specs.Prelude.{◌==◌, ◌&&◌, Bool}
use Rattle.std.specs.FinSet as set
use Rattle.fbl_trace.specs.MemberSets.{AllBelow, Members}
use Rattle.fbl_law.specs.Groups.{GroupRecord, messages_in_flight}
use Rattle.fbl_group.specs.declared.refusals.DumpGroupRefusal.{DumpGroupRefusal}
use Rattle.fbl_group.specs.declared.refusals.DumpGroupRefusal.TheVariants.{BadStrike, Memory}

-- whether nothing is in flight and nobody is down
abbrev pub is_quiet : {S N : Type 0} → GroupRecord S N → Bool
is_quiet r = (messages_in_flight r == 0) && (set.len r.down == 0)

-- a dump is refused exactly where the strike set has a member outside the group, or else for lack of memory
abbrev pub IsDumpRefusal : {S N : Type 0} → GroupRecord S N → Members → DumpGroupRefusal → Type 0
IsDumpRefusal r strike BadStrike = ¬ (AllBelow strike r.config.members)
IsDumpRefusal r strike Memory = AllBelow strike r.config.members
