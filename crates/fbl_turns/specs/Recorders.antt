-- The records of a run's turns, where they are kept.
use Rattle.std.specs.Prelude.{◌≡◌, ℕ, ◌<◌, Bool, true, false, length, List, ◌++◌, ◌∷◌, [], Vec, vec_len, vec_capacity, Option, Some, None, option_map}
use Rattle.std.specs.Option.{ForSome}
use Rattle.fbl_trace.specs.Fold.{Next}
use Rattle.fbl_trace.specs.MemberSets.{Members}
use Rattle.fbl_trace.specs.declared.strike.Strike.{Strike}
use Rattle.fbl_trace.specs.declared.ticket.Ticket.{Ticket}
use Rattle.fbl_law.specs.Groups.{GroupRecord, member}
use Rattle.fbl_group.specs.declared.answers.Recovered.{Recovered}
use Rattle.fbl_group.specs.declared.answers.Struck.{Struck}
use Rattle.fbl_group.specs.declared.refusals.CommitRefusal.{CommitRefusal}
use Rattle.fbl_group.specs.declared.refusals.CommitRefusal.TheVariants.{Full, Memory}
use Rattle.fbl_group.specs.declared.answers.TurnRecord.{TurnRecord}
use Rattle.fbl_group.specs.declared.answers.RecoveryRecord.{RecoveryRecord}
use Rattle.fbl_turns.specs.Runs.{Counts, Reached, Turn, lacks_memory, meets_full, undoes}
use Rattle.fbl_group.specs.Records.{CountsEach, IsPlannedCrash, IsRecoveryRecord}
use Rattle.fbl_group.specs.Strikes.{IsStrikeAlone}
use Rattle.fbl_turns.specs.Recorded.{ReachedBy, IsRecordedAs}

-- the records, if they are kept
abbrev pub recorded : {S N A : Type 0} → Option (Vec (TurnRecord S N) A) → Option (List (TurnRecord S N))
recorded records = option_map (λ v. v.items) records

-- there is room for one more, if they are kept
abbrev pub HasRoom : {S N A : Type 0} → Option (Vec (TurnRecord S N) A) → Type 0
HasRoom records = ForSome records (λ v. vec_len v < vec_capacity v)

-- the records with one more, if any are kept
abbrev pub with_record : {S N : Type 0} → TurnRecord S N → Option (List (TurnRecord S N)) → Option (List (TurnRecord S N))
with_record t records = option_map (λ list. list ++ t ∷ []) records

-- a run, whose turns have these records if any are kept
abbrev pub RunAs : {S N : Type 0} → Next S N → List Strike → ℕ → GroupRecord S N → Option (List (TurnRecord S N)) → GroupRecord S N → Counts → Type 0
RunAs next plan workers start None r c = Reached next plan workers start r c
RunAs next plan workers start (Some list) r c = ReachedBy next plan workers start list r c

-- so many workers, under the plan, lead from start to this record and these counts, by turns with these records if any are kept
pub record ReachedAs {S N : Type 0} (next : Next S N) (plan : List Strike) (workers : ℕ) (start : GroupRecord S N) (records : Option (List (TurnRecord S N))) (r : GroupRecord S N) (c : Counts) : Type 0 where
  pub run : RunAs next plan workers start records r c

-- the records before and after a turn: those of the turn are added, if any are kept
abbrev pub IsAdded : {S N : Type 0} → {next : Next S N} {plan : List Strike} {w : ℕ} {ticket : Ticket S N} {old new : GroupRecord S N} {c c' : Counts} {ends : Bool}
    → Turn next plan w ticket old c new c' ends → Option (List (TurnRecord S N)) → Option (List (TurnRecord S N)) → Type 0
IsAdded turn None after = after ≡ None
IsAdded {S} {N} turn (Some list) after = (more : List (TurnRecord S N)) × IsRecordedAs turn more × (after ≡ Some (list ++ more))

-- a turn, whose records are added
pub record TurnAs {S N : Type 0} (next : Next S N) (plan : List Strike) (w : ℕ) (ticket : Ticket S N) (old : GroupRecord S N) (c : Counts) (new : GroupRecord S N) (c' : Counts) (ends : Bool)
    (before after : Option (List (TurnRecord S N))) : Type 0 where
  pub turn : Turn next plan w ticket old c new c' ends
  pub added : IsAdded turn before after

-- the crash of the members by worker w leads from old to new and is recorded so, or their strike does where memory ran out
abbrev pub CrashesAs : {S N : Type 0} → Next S N → ℕ → Members → GroupRecord S N → Counts → GroupRecord S N → Counts → Option RecoveryRecord → Type 0
CrashesAs next w set old c new after (Some r) =
    (crash : IsPlannedCrash next old new set r.recovered) × IsRecoveryRecord crash r × (after ≡ undoes w r.recovered.undone c)
CrashesAs next w set old c new after None = IsStrikeAlone next old new set × (after ≡ lacks_memory c)

-- what is counted where a commit is refused, and whether the worker ends by it
abbrev pub CountsRefusal : CommitRefusal → Counts → Counts → Bool → Type 0
CountsRefusal Full c after ends = (after ≡ meets_full c) × (ends ≡ true)
CountsRefusal Memory c after ends = (after ≡ lacks_memory c) × (ends ≡ true)
CountsRefusal refusal c after ends = (after ≡ c) × (ends ≡ false)

-- the record has these answers of a strike and of a recovery, and the counts of the group that they led to
abbrev pub IsToldOf : {S N : Type 0} → GroupRecord S N → Struck → Recovered → RecoveryRecord → Type 0
IsToldOf new struck recovered r =
    (r.struck ≡ struck) × (r.recovered ≡ recovered) × CountsEach new (λ m. (member new m).received) r.received.items × CountsEach new (λ m. length (member new m).log) r.sent.items
