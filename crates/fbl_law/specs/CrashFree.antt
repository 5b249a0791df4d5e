-- Crash transparency: whatever was struck and recovered, a group looks as it would after a run in which nobody crashed. That a
-- system's state is consistent where it may occur in a failure-free run is the intuition of Elnozahy and others (2002); here there
-- is such a run.
use Rattle.std.specs.Prelude.{◌≡◌, ℕ, ◌==◌, List, [], ◌++◌, map}
use Rattle.std.specs.List.{filter}
use Rattle.fbl_trace.specs.declared.trace.Event.{Event}
use Rattle.fbl_trace.specs.Configs.{Settings}
use Rattle.fbl_trace.specs.Events.{mark_of, member_of}
use Rattle.fbl_trace.specs.Fold.{Next}
use Rattle.fbl_trace.specs.Steps.{SendsWell}
use Rattle.fbl_member.specs.Members.{Message, MemberRecord}
use Rattle.fbl_law.specs.Knowledge.{IsUp}
use Rattle.fbl_law.specs.Groups.{GroupRecord, member, channel, knowledge, IsSound}
use Rattle.fbl_law.specs.GroupSteps.{IsGroupStart, IsDelivery}
use Rattle.fbl_law.specs.GroupLaws.{Run}

-- from a start of a group a run of deliveries alone: nobody is ever struck, so nothing is replayed, undone or sent again
pub data CrashFree {S N : Type 0} (next : Next S N) (config : Settings N) : GroupRecord S N → Type 0 where
  begins : {new : GroupRecord S N} → IsGroupStart next config new → CrashFree next config new
  goes_on : {old new : GroupRecord S N} {v : Message N} → CrashFree next config old → IsDelivery next old new v → CrashFree next config new

-- a member's record but for its table: its state, its counts, its last numbers and its log
abbrev pub without_table : {S N : Type 0} → MemberRecord S N → MemberRecord S N
without_table m = record m { table = [] }

-- a message but for what it carries
abbrev pub without_carried : {N : Type 0} → Message N → Message N
without_carried v = record v { carried = [] }

-- nobody can tell the group from the other one by states and messages: the two have the same configuration and the same trace, each
-- member that is up has the same record but for its table, and each channel between two such the same messages, in the same order,
-- but for what they carry
pub record LooksLike {S N : Type 0} (r other : GroupRecord S N) : Type 0 where
  pub config : r.config ≡ other.config
  pub trace : r.trace ≡ other.trace
  pub members : (m : ℕ) → IsUp (knowledge r) m → without_table (member r m) ≡ without_table (member other m)
  pub channels : (q p : ℕ) → IsUp (knowledge r) q → IsUp (knowledge r) p → map without_carried (channel r q p) ≡ map without_carried (channel other q p)

-- the group looks as after a run in which nobody crashed: such a run leads from a start of the same configuration to a group that
-- nobody can tell from it
pub record LooksCrashFree {S N : Type 0} (next : Next S N) (r : GroupRecord S N) : Type 0 where
  pub other : GroupRecord S N
  pub run : CrashFree next r.config other
  pub looks : LooksLike r other

-- so does every sound group look, whoever crashed, whatever was recovered, and whoever is down
abbrev pub CrashesAreMasked : Type 0 → Type 0 → Type 0
CrashesAreMasked S N = (next : Next S N) (r : GroupRecord S N) → SendsWell next → IsSound next r → LooksCrashFree next r

-- a run by deliveries alone is a run, so it keeps a group sound
abbrev pub CrashFreeIsRun : Type 0 → Type 0 → Type 0
CrashFreeIsRun S N = (next : Next S N) (config : Settings N) (r : GroupRecord S N) → CrashFree next config r → Run next config r

-- the events of a member, in order
abbrev pub events_of : {N : Type 0} → ℕ → List (Event N) → List (Event N)
events_of m trace = filter (λ e. member_of (mark_of e) == m) trace

-- the events left of each member are the first ones of those that it had, and of a survivor all
pub record KeepsPasts {S N : Type 0} (old new : GroupRecord S N) : Type 0 where
  pub first : (m : ℕ) → (undone : List (Event N)) × (events_of m old.trace ≡ events_of m new.trace ++ undone)
  pub survivors : (m : ℕ) → IsUp (knowledge old) m → events_of m new.trace ≡ events_of m old.trace
