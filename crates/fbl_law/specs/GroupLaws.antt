-- The laws of a group's record, for the functions that state them: what keeps it sound, what family-based logging promises of it
-- between any two calls (always no orphans: Alvisi and Marzullo 1998), and what a recovery leaves.
use Rattle.std.specs.Prelude.{ℕ, ◌≤◌, ◌≡◌, ◌<◌, ◌↔◌, true, length, ◌+◌, ◌⊎◌, not, List, ◌++◌, map, slice_index_or, slice_set, Some}
use Rattle.std.specs.List.{filter, filter_map}
use Rattle.std.specs.FinSet as set
use Rattle.fbl_trace.specs.Configs.{Settings, IsConfig}
use Rattle.fbl_trace.specs.Fold.{Next}
use Rattle.fbl_trace.specs.MemberSets.{AllBelow, Members}
use Rattle.fbl_member.specs.Members.{Message, MemberRecord, blank, logged_note, replayed_by}
use Rattle.fbl_law.specs.Groups.{GroupRecord, channel, member_checkpoint, marks, knowledge, is_recorded, receipts, receipts_at, IsSound, OfSound}
use Rattle.fbl_law.specs.GroupSteps.{IsGroupStart, IsDelivery, IsStrike, IsCheckpoint, IsRecovery, Stays, recovery_table, recovered_trace, working, IsReplaying, IsWaiting, IsRebuilt}
use Rattle.fbl_trace.specs.declared.trace.Determinant.{Determinant}
use Rattle.fbl_trace.specs.Events.{receipt_of, mark_of}
use Rattle.fbl_trace.specs.Precedence.{Has, Precedes}
use Rattle.fbl_trace.specs.Rules.{in_flight, sent_on, taken_on}
use Rattle.fbl_trace.specs.Steps.{SendsWell}
use Rattle.fbl_law.specs.Knowledge.{IsRecorded, Includes, IsDown, IsUp, IsOrphan, Holds}
use Rattle.fbl_law.specs.Promises.{IsHeldByMore, SurvivorsHold}
use Rattle.fbl_trace.specs.declared.trace.Mark.{Mark}
use Rattle.fbl_table.specs.Tables.{found}

-- a group in which nothing is received yet is sound
abbrev pub GroupStartIsSound : Type 0 → Type 0 → Type 0
GroupStartIsSound S N =
    (next : Next S N) (config : Settings N) (r : GroupRecord S N)
    → IsConfig next.allowed config → IsGroupStart next config r → IsSound next r

-- a delivery keeps a group sound
abbrev pub GroupDeliveryKeeps : Type 0 → Type 0 → Type 0
GroupDeliveryKeeps S N =
    (next : Next S N) (old new : GroupRecord S N) (v : Message N)
    → SendsWell next → IsDelivery next old new v → IsSound next old → IsSound next new

-- so does a strike after which at most f members are down
abbrev pub GroupStrikeKeeps : Type 0 → Type 0 → Type 0
GroupStrikeKeeps S N =
    (next : Next S N) (old new : GroupRecord S N) (struck : Members)
    → IsStrike next old new struck → AllBelow struck old.config.members → set.len new.down ≤ old.config.f → IsSound next old → IsSound next new

-- so does a checkpoint of a member
abbrev pub GroupCheckpointKeeps : Type 0 → Type 0 → Type 0
GroupCheckpointKeeps S N =
    (next : Next S N) (old new : GroupRecord S N) (p : ℕ)
    → IsCheckpoint old new p → IsSound next old → IsSound next new

-- so does a recovery
abbrev pub GroupRecoveryKeeps : Type 0 → Type 0 → Type 0
GroupRecoveryKeeps S N =
    (next : Next S N) (old new : GroupRecord S N)
    → IsRecovery next old new → IsSound next old → IsSound next new

-- a run from one group to another: of deliveries, of strikes after which at most f members are down, of checkpoints, and of recoveries
pub data RunFrom {S N : Type 0} (next : Next S N) (first : GroupRecord S N) : GroupRecord S N → Type 0 where
  starts : RunFrom next first first
  delivers : {old new : GroupRecord S N} {v : Message N} → RunFrom next first old → IsDelivery next old new v → RunFrom next first new
  strikes : {old new : GroupRecord S N} {struck : Members}
      → RunFrom next first old → IsStrike next old new struck → AllBelow struck old.config.members → set.len new.down ≤ old.config.f → RunFrom next first new
  checkpoints : {old new : GroupRecord S N} {p : ℕ} → RunFrom next first old → IsCheckpoint old new p → RunFrom next first new
  recovers : {old new : GroupRecord S N} → RunFrom next first old → IsRecovery next old new → RunFrom next first new

-- a run from a start of a group
abbrev pub Run : {S N : Type 0} → Next S N → Settings N → GroupRecord S N → Type 0
Run {S} {N} next config r = (first : GroupRecord S N) × IsGroupStart next config first × RunFrom next first r

-- so a group is sound after every run
abbrev pub RunIsSound : Type 0 → Type 0 → Type 0
RunIsSound S N = (next : Next S N) (config : Settings N) (r : GroupRecord S N) → SendsWell next → IsConfig next.allowed config → Run next config r → IsSound next r

-- a receipt that more than f members hold is never undone, whatever is struck, recovered and delivered later; and whenever nobody is
-- down, more than f members hold it
abbrev pub HeldByMoreStays : Type 0 → Type 0 → Type 0
HeldByMoreStays S N =
    (next : Next S N) (old new : GroupRecord S N) (d : Determinant)
    → SendsWell next → IsSound next old → IsHeldByMore old d → RunFrom next old new → Has (marks new) (receipt_of d) × (new.down ≡ set.empty → IsHeldByMore new d)

-- a strike of some members and then of others is a strike of both
abbrev pub StrikesJoin : Type 0 → Type 0 → Type 0
StrikesJoin S N =
    (next : Next S N) (old between new : GroupRecord S N) (some others : Members)
    → IsStrike next old between some → IsStrike next between new others → IsStrike next old new (set.union some others)

-- and what a strike leaves follows from the group and the members struck
abbrev pub StrikeIsOne : Type 0 → Type 0 → Type 0
StrikeIsOne S N = (next : Next S N) (old new other : GroupRecord S N) (struck : Members) → IsStrike next old new struck → IsStrike next old other struck → other ≡ new

-- on each channel the messages received are the first of those sent, each once and in the order in which they were sent: the
-- numbers of those sent are the numbers of those received and then of those in flight, which the channel has between members
-- that are up
pub record IsFirstInFirstOut {S N : Type 0} (r : GroupRecord S N) (q p : ℕ) : Type 0 where
  pub received : filter_map (sent_on q p) (marks r) ≡ filter_map (taken_on q p) (marks r) ++ in_flight (marks r) q p
  pub others : IsUp (knowledge r) q → IsUp (knowledge r) p → map (λ v. v.ssn) (channel r q p) ≡ in_flight (marks r) q p

-- in a sound group the test of who has recorded a receipt is right
abbrev pub RecordedTest : Type 0 → Type 0 → Type 0
RecordedTest S N =
    (next : Next S N) (r : GroupRecord S N) (d : Determinant)
    → IsSound next r → (is_recorded r d ≡ true) ↔ IsRecorded (knowledge r) d

-- the receipts of a member's checkpoint are always recorded: the trace has them, and each of the member's first receipts,
-- as many as the checkpoint has, is recorded
abbrev pub CheckpointIsRecorded : Type 0 → Type 0 → Type 0
CheckpointIsRecorded S N =
    (next : Next S N) (r : GroupRecord S N) (m : ℕ)
    → IsSound next r → m < r.config.members
    → ((member_checkpoint r m).received ≤ length (receipts_at (marks r) m))
    × ((d : Determinant) → Has (marks r) (receipt_of d) → d.to ≡ m → d.rsn ≤ (member_checkpoint r m).received → IsRecorded (knowledge r) d)

-- no survivor of a strike after which at most f members are down is an orphan
abbrev pub NoSurvivorIsOrphan : Type 0 → Type 0 → Type 0
NoSurvivorIsOrphan S N =
    (next : Next S N) (old new : GroupRecord S N) (struck : Members) (m : ℕ)
    → IsSound next old → IsStrike next old new struck → set.len new.down ≤ old.config.f → ¬ (IsOrphan (knowledge new) m)

-- in a sound group, whichever at most f members have those that are down among them, the other members hold what they
-- depend on
abbrev pub SoundSurvivorsHold : Type 0 → Type 0 → Type 0
SoundSurvivorsHold S N =
    OfSound S N (λ r. (s : Members) → ((q : ℕ) → IsDown (knowledge r) q → Includes s q) → set.len s ≤ r.config.f → SurvivorsHold (knowledge r) s)

-- what holds of a sound group and of what a recovery leaves of it
abbrev pub OfRecovery : (S N : Type 0) → (GroupRecord S N → GroupRecord S N → Type 0) → Type 0
OfRecovery S N P = (next : Next S N) (old new : GroupRecord S N) → IsRecovery next old new → IsSound next old → P old new

-- the holders of a recorded receipt are those before, and the members that were down
abbrev pub GainsTheDown : {S N : Type 0} → GroupRecord S N → GroupRecord S N → Type 0
GainsTheDown old new =
    (d : Determinant) (m : ℕ) → IsRecorded (knowledge old) d → Holds (knowledge new) d m ↔ Holds (knowledge old) d m ⊎ IsDown (knowledge old) m

-- the receipts left and the lost ones are as many as there were
abbrev pub UndoesLost : {S N : Type 0} → GroupRecord S N → GroupRecord S N → Type 0
UndoesLost old new =
    length (receipts (marks new)) + length (filter (λ d. not (is_recorded old d)) (receipts (marks old))) ≡ length (receipts (marks old))

-- of each sound group there is a recovery
abbrev pub RecoveryExists : Type 0 → Type 0 → Type 0
RecoveryExists S N = (next : Next S N) (old : GroupRecord S N) → IsSound next old → (new : GroupRecord S N) × IsRecovery next old new

-- and only one
abbrev pub RecoveryIsOne : Type 0 → Type 0 → Type 0
RecoveryIsOne S N = (next : Next S N) (old new other : GroupRecord S N) → IsSound next old → IsRecovery next old new → IsRecovery next old other → other ≡ new

-- an event of a sound group stays exactly where each receipt that precedes it is recorded
abbrev pub StaysIsRecorded : Type 0 → Type 0 → Type 0
StaysIsRecorded S N = OfSound S N (λ r. (e : Mark) → Has (marks r) e
    → Stays (knowledge r) e ↔ ((c : Determinant) → Precedes (marks r) (receipt_of c) e → IsRecorded (knowledge r) c))

-- so what precedes an event that a recovery leaves is left
abbrev pub CutIsClosed : Type 0 → Type 0 → Type 0
CutIsClosed S N = OfRecovery S N (λ old new. (a b : Mark) → Precedes (marks old) a b → Has (marks new) b → Has (marks new) a)

-- replay begins at the checkpoints of the members that are down
abbrev pub ReplayBegins : Type 0 → Type 0 → Type 0
ReplayBegins S N =
    (next : Next S N) (old : GroupRecord S N) (rebuilt : List (MemberRecord S N))
    → IsSound next old → length rebuilt ≡ old.config.members
    → ((p : ℕ) → p < old.config.members → IsDown (knowledge old) p → slice_index_or rebuilt p (blank old.outside) ≡ member_checkpoint old p)
    → IsReplaying next old rebuilt

-- a receipt that the gathered tables find is the member's next one, and its replay, with the note that the sender's log
-- has, is right
abbrev pub ReplayIsRight : Type 0 → Type 0 → Type 0
ReplayIsRight S N =
    (next : Next S N) (old : GroupRecord S N) (rebuilt : List (MemberRecord S N)) (p : ℕ) (d : Determinant) (note : N)
    → IsSound next old → IsReplaying next old rebuilt → p < old.config.members → IsDown (knowledge old) p
    → found p ((slice_index_or rebuilt p (blank old.outside)).received + 1) (recovery_table (knowledge old)) ≡ Some d
    → logged_note (working old rebuilt d.from).log d.ssn ≡ Some note
    → IsReplaying next old (slice_set rebuilt p (replayed_by next p old.config.members (slice_index_or rebuilt p (blank old.outside)) d note))

-- replay never gets stuck: where each member that is down waits, each has replayed all its receipts that stay
abbrev pub ReplayEnds : Type 0 → Type 0 → Type 0
ReplayEnds S N =
    (next : Next S N) (old : GroupRecord S N) (rebuilt : List (MemberRecord S N))
    → IsSound next old → IsReplaying next old rebuilt → ((p : ℕ) → p < old.config.members → IsDown (knowledge old) p → IsWaiting old rebuilt p)
    → (p : ℕ) → p < old.config.members → IsDown (knowledge old) p → (slice_index_or rebuilt p (blank old.outside)).received ≡ length (receipts_at (map mark_of (recovered_trace old)) p)

-- and the records then rebuilt make a recovery
abbrev pub RebuiltIsRecovered : Type 0 → Type 0 → Type 0
RebuiltIsRecovered S N =
    (next : Next S N) (old new : GroupRecord S N) (rebuilt : List (MemberRecord S N))
    → IsSound next old → IsReplaying next old rebuilt → ((p : ℕ) → p < old.config.members → IsDown (knowledge old) p → IsWaiting old rebuilt p)
    → IsRebuilt old new rebuilt → IsRecovery next old new
