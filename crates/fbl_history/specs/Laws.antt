-- The laws of histories, for the functions that state them.
use Rattle.std.specs.Prelude.{◌≡◌, ℕ, Bool, List, [], ◌∷◌, ◌++◌, map, Option, Some, None}
use Rattle.std.specs.List.{filter}
use Rattle.fbl_trace.specs.declared.trace.Note.{Note}
use Rattle.fbl_trace.specs.Configs.{Settings}
use Rattle.fbl_trace.specs.Fold.{Next}
use Rattle.fbl_trace.specs.MemberSets.{Members}
use Rattle.fbl_trace.specs.Steps.{SendsWell}
use Rattle.fbl_group.specs.declared.answers.CrashRecord.{CrashRecord}
use Rattle.fbl_group.specs.declared.answers.RecoveryRecord.{RecoveryRecord}
use Rattle.fbl_group.specs.declared.answers.TurnRecord.{TurnRecord}
use Rattle.fbl_group.specs.Records.{TurnsLead}
use Rattle.fbl_law.specs.Groups.{GroupRecord, IsSound}
use Rattle.fbl_law.specs.GroupSteps.{IsCheckpoint, IsDelivery, IsGroupStart, IsRecovery, IsStrike}
use Rattle.fbl_member.specs.Members.{Message}
use Rattle.fbl_history.specs.declared.column.Column.{Column}
use Rattle.fbl_history.specs.declared.column.Column.TheVariants.{Strike, Checkpoint}
use Rattle.fbl_history.specs.Columns.{standing, go_on, undone_without, GoesOnFrom, HasEachOnce}
use Rattle.fbl_history.specs.Traces.{go_on_to, start_columns, trace_columns, IsAfterRecovery, IsHistoryOf}
use Rattle.fbl_history.specs.Turns.{IsAfterTurns}

-- the standing events of a history that went on to a group are exactly the group's trace, in its order
abbrev pub StandingIsTrace : Type 0
StandingIsTrace = (next : Next ℕ Note) (r : GroupRecord ℕ Note) (columns : List Column) → standing (go_on_to next columns r) ≡ trace_columns next r

-- a history that goes on changes nothing but that standing events are undone, and adds at its end
abbrev pub NothingComesBack : Type 0
NothingComesBack = (next : Next ℕ Note) (r : GroupRecord ℕ Note) (columns : List Column) → GoesOnFrom columns (go_on_to next columns r)

-- a history of whose standing events no two are the same goes on to some of these, in their order, as at a recovery: exactly
-- the others are undone, and nothing is added
abbrev pub OthersAreUndone : Type 0
OthersAreUndone =
    (columns : List Column) (stays : Column → Bool) → HasEachOnce (standing columns)
    → go_on columns (filter stays (standing columns)) ≡ map (undone_without (filter stays (standing columns))) columns

-- of the columns of a sound group's trace no two are the same standing event
abbrev pub TraceHasEachOnce : Type 0
TraceHasEachOnce = (next : Next ℕ Note) (r : GroupRecord ℕ Note) → IsSound next r → HasEachOnce (trace_columns next r)

-- ---- histories of groups

-- the sends of the starts are the history of a new group
abbrev pub BeginsAtStart : Type 0
BeginsAtStart =
    (next : Next ℕ Note) (config : Settings Note) (r : GroupRecord ℕ Note) → IsGroupStart next config r → IsHistoryOf next r (start_columns config.starts)

-- a history of a sound group that goes on after a delivery is one of the group that the delivery leaves
abbrev pub FollowsDeliveries : Type 0
FollowsDeliveries =
    (next : Next ℕ Note) (old new : GroupRecord ℕ Note) (v : Message Note) (columns : List Column) → SendsWell next → IsSound next old
    → IsDelivery next old new v → IsHistoryOf next old columns → IsHistoryOf next new (go_on_to next columns new)

-- with the strike's column it is one of the group that a strike leaves
abbrev pub FollowsStrikes : Type 0
FollowsStrikes =
    (next : Next ℕ Note) (old new : GroupRecord ℕ Note) (struck : Members) (columns : List Column)
    → IsStrike next old new struck → IsHistoryOf next old columns → IsHistoryOf next new (columns ++ Strike struck ∷ [])

-- with the checkpoint's column it is one of the group that a checkpoint leaves
abbrev pub FollowsCheckpoints : Type 0
FollowsCheckpoints =
    (next : Next ℕ Note) (old new : GroupRecord ℕ Note) (p : ℕ) (columns : List Column)
    → IsCheckpoint old new p → IsHistoryOf next old columns → IsHistoryOf next new (columns ++ Checkpoint p ∷ [])

-- and so it is after a recovery
abbrev pub FollowsRecoveries : Type 0
FollowsRecoveries =
    (next : Next ℕ Note) (old new : GroupRecord ℕ Note) (members : Members) (columns after : List Column) → IsSound next old
    → IsRecovery next old new → IsAfterRecovery next new members columns after → IsHistoryOf next old columns → IsHistoryOf next new after

-- the history after a strike of these members and a recovery, if there was one, as after the commands that do the same
abbrev pub IsAsStruck : Next ℕ Note → GroupRecord ℕ Note → Members → Option RecoveryRecord → List Column → List Column → Type 0
IsAsStruck next r members None old new = new ≡ old ++ Strike members ∷ []
IsAsStruck next r members (Some recovery) old new = IsAfterRecovery next r members (old ++ Strike members ∷ []) new

abbrev pub IsAsCrashed : Next ℕ Note → GroupRecord ℕ Note → Option CrashRecord → List Column → List Column → Type 0
IsAsCrashed next r None old new = new ≡ old
IsAsCrashed next r (Some crash) old new = IsAsStruck next r crash.set crash.recovery old new

-- the history after turns, as after the commands that do the same: each turn's commit is a delivery, and its crash a strike and a
-- recovery
abbrev pub IsAsByCommands : (next : Next ℕ Note) (old : GroupRecord ℕ Note) (turns : List (TurnRecord ℕ Note)) (new : GroupRecord ℕ Note) → TurnsLead next old turns new → List Column → List Column → Type 0
IsAsByCommands next old [] new lead columns after = after ≡ columns
IsAsByCommands next old (t ∷ turns) new lead columns after =
    (mid : List Column) × IsAsCrashed next lead.0 t.crash (go_on_to next columns lead.1.between) mid × IsAsByCommands next lead.0 turns new lead.2 mid after

-- a history of a sound group from which these turns lead to another goes on as by the commands that do the same, and is then one of
-- that group
abbrev pub FollowsTurns : Type 0
FollowsTurns =
    (next : Next ℕ Note) (old new : GroupRecord ℕ Note) (turns : List (TurnRecord ℕ Note)) (columns after : List Column) → SendsWell next → IsSound next old
    → (lead : TurnsLead next old turns new) → IsHistoryOf next old columns → IsAfterTurns next new turns columns after
    → IsAsByCommands next old turns new lead columns after × IsHistoryOf next new after
