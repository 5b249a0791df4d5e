-- What each command of a script does to a group, and what it answers.
use Rattle.std.specs.Prelude.{◌≡◌, ℕ, ◌⊎◌, false, List, length, Option, Some, None, codes, Result, Ok, Err}
use Rattle.std.specs.List.{filter}
use Rattle.std.specs.FinSet as set
use Rattle.fbl_trace.specs.declared.trace.Note.{Note}
use Rattle.fbl_trace.specs.declared.trace.Determinant.{Determinant}
use Rattle.fbl_trace.specs.declared.strike.Strike.{Strike}
use Rattle.fbl_trace.specs.Fold.{Next}
use Rattle.fbl_trace.specs.MemberSets.{AllBelow, Members}
use Rattle.fbl_group.specs.declared.answers.Receipted.{Receipted}
use Rattle.fbl_group.specs.declared.refusals.CheckpointRefusal.{CheckpointRefusal}
use Rattle.fbl_group.specs.declared.refusals.DeliverRefusal.{DeliverRefusal}
use Rattle.fbl_group.specs.declared.refusals.DumpGroupRefusal.TheVariants.{BadStrike}
use Rattle.fbl_group.specs.declared.refusals.RecoverRefusal.TheVariants as recover
use Rattle.fbl_group.specs.declared.refusals.StrikeRefusal.{StrikeRefusal}
use Rattle.fbl_group.specs.Refusals.{checkpoint_name, deliver_name, dump_group_name, recover_name, strike_name}
use Rattle.fbl_group.specs.Checkpoints.{checkpoint_refusal}
use Rattle.fbl_group.specs.Deliveries.{deliver_refusal, Delivers}
use Rattle.fbl_group.specs.Strikes.{Recovers, lost_receipts, strike_refusal, Strikes}
use Rattle.fbl_law.specs.Promises.{dump_of}
use Rattle.fbl_law.specs.Groups.{GroupRecord, is_recorded, member_checkpoint}
use Rattle.fbl_law.specs.GroupSteps.{IsCheckpoint}
use Rattle.fbl_scripts.specs.declared.script.Command.{Command}
use Rattle.fbl_scripts.specs.declared.script.Command.TheVariants as commands
use Rattle.fbl_threads.specs.declared.drains.RecordedDrain.{RecordedDrain}
use Rattle.fbl_threads.specs.declared.drains.DrainRefusal.{DrainRefusal}
use Rattle.fbl_threads.specs.declared.drains.DrainRefusal.TheVariants as drain
use Rattle.fbl_threads.specs.Drains.{RecordedDrains}
use Rattle.fbl_threads.specs.Names.{drain_name}
use Rattle.fbl_scripts.specs.declared.answer.Answer.{Answer}
use Rattle.fbl_scripts.specs.declared.answer.Answer.TheVariants as answers
use Rattle.fbl_scripts.specs.declared.reason.RefusalReason.{RefusalReason}
use Rattle.fbl_scripts.specs.declared.reason.RefusalReason.TheVariants.{NotDown}
use Rattle.fbl_scripts.specs.Reasons.{checkpoint_reason, deliver_reason, no_such_member, strike_reason, IsRunReason}

-- the answer is the refusal with this name of the command with that name, for this reason
abbrev pub IsRefused : List ℕ → List ℕ → RefusalReason → Answer → Type 0
IsRefused command refusal reason (answers.Refusal c r why) = (c.now ≡ command) × (r.now ≡ refusal) × (why ≡ reason)
IsRefused command refusal reason _ = ⊥

-- a delivery, by its first refusal: a refused one changes nothing
abbrev pub DeliveryBy : Option DeliverRefusal → Next ℕ Note → GroupRecord ℕ Note → ℕ → ℕ → GroupRecord ℕ Note → Answer → Type 0
DeliveryBy None next old to from new answer = (receipt : Receipted ℕ) × Delivers next old new to from receipt × (answer ≡ answers.Delivery to from receipt)
DeliveryBy (Some refusal) next old to from new answer = (new ≡ old) × IsRefused (codes "deliver") (deliver_name refusal) (deliver_reason old to from refusal) answer

abbrev pub DeliverStep : Next ℕ Note → GroupRecord ℕ Note → ℕ → ℕ → GroupRecord ℕ Note → Answer → Type 0
DeliverStep next old to from new answer = DeliveryBy (deliver_refusal next old to from) next old to from new answer

-- the receipts that a strike from old to new loses: those that are lost after it, and were recorded before it
abbrev pub newly_lost : GroupRecord ℕ Note → GroupRecord ℕ Note → List Determinant
newly_lost old new = filter (is_recorded old) (lost_receipts new)

-- the answer is that of a strike of these members; it names the receipts that the strike loses, and counts those that were lost before it
abbrev pub IsStruck : Next ℕ Note → GroupRecord ℕ Note → Members → GroupRecord ℕ Note → Answer → Type 0
IsStruck next old members new (answers.Strike named struck receipts before) =
    (named ≡ members) × Strikes next old new members struck × (receipts.items ≡ newly_lost old new) × (before ≡ length (lost_receipts old))
IsStruck next old members new _ = ⊥

-- a strike, by its first refusal: a refused one changes nothing
abbrev pub StrikeBy : Option StrikeRefusal → Next ℕ Note → GroupRecord ℕ Note → Members → GroupRecord ℕ Note → Answer → Type 0
StrikeBy None next old members new answer = IsStruck next old members new answer
StrikeBy (Some refusal) next old members new answer = (new ≡ old) × IsRefused (codes "strike") (strike_name refusal) (strike_reason old members refusal) answer

abbrev pub StrikeStep : Next ℕ Note → GroupRecord ℕ Note → Members → GroupRecord ℕ Note → Answer → Type 0
StrikeStep next old members new answer = StrikeBy (strike_refusal old members) next old members new answer

-- the answer is that of a recovery of those that are down, and names the receipts that the recovery undoes
abbrev pub IsRecovered : Next ℕ Note → GroupRecord ℕ Note → GroupRecord ℕ Note → Answer → Type 0
IsRecovered next old new (answers.Recovery members recovered undone) = (members ≡ old.down) × Recovers next old new recovered × (undone.items ≡ lost_receipts old)
IsRecovered next old new _ = ⊥

-- a recovery of those that are down; where nobody is, it is refused
abbrev pub RecoverStep : Next ℕ Note → GroupRecord ℕ Note → GroupRecord ℕ Note → Answer → Type 0
RecoverStep next old new answer =
    ((old.down ≡ set.empty) × (new ≡ old) × IsRefused (codes "recover") (recover_name recover.NotDown) NotDown answer)
    ⊎ (¬ (old.down ≡ set.empty) × IsRecovered next old new answer)

-- a dump of the group with this strike set
abbrev pub IsDumped : GroupRecord ℕ Note → Members → Answer → Type 0
IsDumped r strike answer =
    (AllBelow strike r.config.members × (answer ≡ answers.Dump (dump_of r strike)))
    ⊎ (¬ (AllBelow strike r.config.members) × IsRefused (codes "dump") (dump_group_name BadStrike) (no_such_member r strike) answer)

-- a checkpoint, by its first refusal: a refused one changes nothing
abbrev pub CheckpointBy : Option CheckpointRefusal → GroupRecord ℕ Note → ℕ → GroupRecord ℕ Note → Answer → Type 0
CheckpointBy None old p new answer = IsCheckpoint old new p × (answer ≡ answers.Checkpoint p (member_checkpoint new p).received)
CheckpointBy (Some refusal) old p new answer = (new ≡ old) × IsRefused (codes "checkpoint") (checkpoint_name refusal) (checkpoint_reason old p refusal) answer

abbrev pub CheckpointStep : GroupRecord ℕ Note → ℕ → GroupRecord ℕ Note → Answer → Type 0
CheckpointStep old p new answer = CheckpointBy (checkpoint_refusal old p) old p new answer

-- what a run with this plan answers whose workers' drain answered this, where the group had made and undone so many receipts and is now like this: the
-- counts of the workers, as the drain answered them, and those of the group; or why it was refused. Nothing where memory ran out, for the drain or a worker
abbrev pub IsRunAnswer : List Strike → ℕ → ℕ → GroupRecord ℕ Note → Result (RecordedDrain ℕ Note) DrainRefusal → Answer → Type 0
IsRunAnswer plan made undone now (Ok recorded) answer =
    (recorded.drained.memory ≡ false) × (answer ≡ answers.Run recorded made now.receipts_ever undone now.undone_ever)
IsRunAnswer plan made undone now (Err drain.Memory) answer = ⊥
IsRunAnswer plan made undone now (Err refusal) answer =
    (reason : RefusalReason) × IsRunReason plan now refusal reason × IsRefused (codes "run") (drain_name refusal) reason answer

-- how many turns each worker of a run may take
abbrev pub turns_each : ℕ
turns_each = 1000000

-- a run with this plan by this many workers may lead from old to new, and answer this: it follows by an answer of the workers' drain,
-- whose turns are recorded
abbrev pub RunStep : Next ℕ Note → ℕ → List Strike → GroupRecord ℕ Note → GroupRecord ℕ Note → Answer → Type 0
RunStep next workers plan old new answer =
    (recorded : Result (RecordedDrain ℕ Note) DrainRefusal) × RecordedDrains next workers turns_each plan old new recorded
    × IsRunAnswer plan old.receipts_ever old.undone_ever new recorded answer

-- a command, with this many workers, may lead from old to new, and answer this
abbrev pub Step : Next ℕ Note → ℕ → GroupRecord ℕ Note → Command → GroupRecord ℕ Note → Answer → Type 0
Step next workers old (commands.Deliver to from) new answer = DeliverStep next old to from new answer
Step next workers old commands.States new answer = (new ≡ old) × (answer ≡ answers.States)
Step next workers old commands.Report new answer = (new ≡ old) × (answer ≡ answers.Report)
Step next workers old (commands.Strike members) new answer = StrikeStep next old members new answer
Step next workers old commands.Recover new answer = RecoverStep next old new answer
Step next workers old (commands.Dump strike) new answer = (new ≡ old) × IsDumped old strike answer
Step next workers old (commands.Run plan) new answer = RunStep next workers plan old new answer
Step next workers old (commands.Checkpoint p) new answer = CheckpointStep old p new answer

-- those that were recovered are members of the group
abbrev pub HasMembers : GroupRecord ℕ Note → Answer → Type 0
HasMembers r (answers.Recovery members recovered undone) = AllBelow members r.config.members
HasMembers r _ = Unit {0}
