-- Which commands are refused, and why, with the numbers of the group that refused them.
use Rattle.std.specs.Prelude.{◌≡◌, ℕ, Bool, true, false, List, length}
use Rattle.std.specs.FinSet as set
use Rattle.fbl_trace.specs.declared.trace.Note.{Note}
use Rattle.fbl_trace.specs.Configs.{Settings}
use Rattle.fbl_trace.specs.MemberSets.{Members}
use Rattle.fbl_trace.specs.Breaches.{IsFirstBad, IsPlanFault}
use Rattle.fbl_trace.specs.declared.fault.PlanFault.{PlanFault}
use Rattle.fbl_trace.specs.declared.strike.Strike.{Strike}
use Rattle.fbl_group.specs.declared.refusals.CheckpointRefusal.{CheckpointRefusal}
use Rattle.fbl_group.specs.declared.refusals.CheckpointRefusal.TheVariants as checkpoint
use Rattle.fbl_group.specs.declared.refusals.DeliverRefusal.{DeliverRefusal}
use Rattle.fbl_group.specs.declared.refusals.DeliverRefusal.TheVariants as deliver
use Rattle.fbl_group.specs.declared.refusals.StrikeRefusal.{StrikeRefusal}
use Rattle.fbl_group.specs.declared.refusals.StrikeRefusal.TheVariants as strike
use Rattle.fbl_law.specs.Groups.{GroupRecord}
use Rattle.fbl_threads.specs.declared.drains.DrainRefusal.{DrainRefusal}
use Rattle.fbl_threads.specs.declared.drains.DrainRefusal.TheVariants as drain
use Rattle.fbl_scripts.specs.declared.answer.Answer.{Answer}
use Rattle.fbl_scripts.specs.declared.answer.Answer.TheVariants as answers
use Rattle.fbl_scripts.specs.declared.reason.RefusalReason.{RefusalReason}
use Rattle.fbl_scripts.specs.declared.reason.RefusalReason.TheVariants as reasons

-- whether the command was refused
abbrev pub is_refusal : Answer → Bool
is_refusal (answers.Refusal command refusal reason) = true
is_refusal _ = false

-- the command names these members, of which the group has not all
abbrev pub no_such_member : GroupRecord ℕ Note → Members → RefusalReason
no_such_member r named = reasons.NoSuchMember (record { named = named; members = r.config.members })

-- why nothing was delivered to the one member from the other
abbrev pub deliver_reason : GroupRecord ℕ Note → ℕ → ℕ → DeliverRefusal → RefusalReason
deliver_reason r to from deliver.BadMember = no_such_member r (set.insert (set.insert set.empty to) from)
deliver_reason r to from deliver.Down = reasons.Down r.down
deliver_reason r to from deliver.Empty = reasons.NothingInFlight from to
deliver_reason r to from _ = reasons.Full (length r.trace) r.config.limit

-- why these members were not struck
abbrev pub strike_reason : GroupRecord ℕ Note → Members → StrikeRefusal → RefusalReason
strike_reason r struck strike.BadMember = no_such_member r struck
strike_reason r struck strike.Nobody = reasons.Nobody
strike_reason r struck strike.TooMany = reasons.TooMany (set.union struck r.down) r.config.f

-- why no checkpoint of the member was taken
abbrev pub checkpoint_reason : GroupRecord ℕ Note → ℕ → CheckpointRefusal → RefusalReason
checkpoint_reason r p checkpoint.BadMember = no_such_member r (set.insert set.empty p)
checkpoint_reason r p _ = reasons.Down r.down

-- why workers with this plan did not run; of a bad plan, its first bad entry and the first rule that this breaks
abbrev pub IsRunReason : List Strike → GroupRecord ℕ Note → DrainRefusal → RefusalReason → Type 0
IsRunReason plan r (drain.BadPlan place) reason = (fault : PlanFault) × IsPlanFault plan r.config fault × (reason ≡ reasons.BadPlan fault)
IsRunReason plan r drain.Down reason = reason ≡ reasons.Down r.down
IsRunReason plan r drain.BadWorkers reason = reason ≡ reasons.BadWorkers
IsRunReason plan r drain.NoThread reason = reason ≡ reasons.NoThread
IsRunReason plan r drain.Uneven reason = reason ≡ reasons.Uneven
IsRunReason plan r _ reason = reason ≡ reasons.NoTable

-- where the plan was refused it has a bad entry
abbrev pub IsPlanRefused : List Strike → Settings Note → DrainRefusal → Type 0
IsPlanRefused plan config (drain.BadPlan place) = IsFirstBad plan config place
IsPlanRefused plan config _ = Unit {0}
