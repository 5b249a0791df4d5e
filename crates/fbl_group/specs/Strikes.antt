-- Strikes, recoveries, and crashes, which are both: when they are refused, and what they leave and answer.
use Rattle.std.specs.Prelude.{◌≡◌, ℕ, ◌<◌, ◌==◌, not, nat_lt, Bool, true, false, length, Option, Some, None, if◌then◌else◌, List, slice_index_or, ◌+◌, ◌||◌, []}
use Rattle.std.specs.List.{filter, list_all}
use Rattle.std.specs.FinSet as set
use Rattle.fbl_trace.specs.MemberSets.{Members}
use Rattle.fbl_trace.specs.declared.trace.Determinant.{Determinant}
use Rattle.fbl_trace.specs.Fold.{Next}
use Rattle.fbl_member.specs.Members.{MemberRecord, Message, blank}
use Rattle.fbl_law.specs.Groups.{GroupRecord, marks, receipts, is_recorded, channel, channel_in, sum_below, member_checkpoint, knowledge}
use Rattle.fbl_law.specs.GroupSteps.{IsStrike, IsRecovery, is_replayed, IsReplaying, IsWaiting, replayed_in, recovery_table, sent_again, working}
use Rattle.fbl_group.specs.declared.refusals.StrikeRefusal.{StrikeRefusal}
use Rattle.fbl_group.specs.declared.refusals.StrikeRefusal.TheVariants as strike
use Rattle.fbl_group.specs.Refusals.{of_strike}
use Rattle.fbl_group.specs.declared.answers.Struck.{Struck}
use Rattle.fbl_group.specs.declared.answers.Recovered.{Recovered}
use Rattle.fbl_group.specs.declared.refusals.RecoverRefusal.{RecoverRefusal}
use Rattle.fbl_group.specs.declared.refusals.RecoverRefusal.TheVariants.{NotDown, Memory}
use Rattle.fbl_table.specs.Receipts.{IsByNumber}
use Rattle.fbl_law.specs.Knowledge.{IsDown}
use Rattle.fbl_group.specs.declared.refusals.CrashRefusal.{CrashRefusal}
use Rattle.fbl_group.specs.declared.refusals.CrashRefusal.TheVariants as crash

-- whether each member of the set is below n
abbrev pub is_within : Members → ℕ → Bool
is_within s n = list_all (λ m. nat_lt m n) (set.items s)

-- the first refusal of a strike of these members that holds: with those that are down already, which may be named again,
-- they may be f together
abbrev pub strike_refusal : {S N : Type 0} → GroupRecord S N → Members → Option StrikeRefusal
strike_refusal r struck =
    if not (is_within struck r.config.members) then Some strike.BadMember
    else (if set.len struck == 0 then Some strike.Nobody
    else (if nat_lt r.config.f (set.len (set.union r.down struck)) then Some strike.TooMany else None))

-- the determinants of the lost receipts, in order: those that no survivor and no checkpoint has recorded
abbrev pub lost_receipts : {S N : Type 0} → GroupRecord S N → List Determinant
lost_receipts r = filter (λ d. not (is_recorded r d)) (receipts (marks r))

-- exactly the records of the members of the set are replaced, by these
pub record AreRecordsReplaced {S N : Type 0} (outside : S) (s : Members) (by : ℕ → MemberRecord S N) (old new : List (MemberRecord S N)) : Type 0 where
  pub size : length new ≡ length old
  pub replaced : (m : ℕ) → m < length old → set.contains s m ≡ true → slice_index_or new m (blank outside) ≡ by m
  pub others : (m : ℕ) → set.contains s m ≡ false → slice_index_or new m (blank outside) ≡ slice_index_or old m (blank outside)

-- a strike of these members leads from old to new, and answers how many receipts are lost
abbrev pub Strikes : {S N : Type 0} → Next S N → GroupRecord S N → GroupRecord S N → Members → Struck → Type 0
Strikes next old new struck answer = IsStrike next old new struck × (answer.lost ≡ length (lost_receipts new))

-- ---- recoveries

-- how many messages are in the channels with an end in the set
abbrev pub messages_at : {S N : Type 0} → Members → GroupRecord S N → ℕ
messages_at s r = sum_below r.config.members (λ q. sum_below r.config.members (λ p. if set.contains s q || set.contains s p then length (channel r q p) else 0))

-- a recovery leads from old to new, and answers how many receipts were replayed (those beyond the checkpoints of the
-- members that were down), how many messages are now in channels with an end that was down, and how many receipts the trace
-- has fewer
pub record Recovers {S N : Type 0} (next : Next S N) (old new : GroupRecord S N) (answer : Recovered) : Type 0 where
  pub recovery : IsRecovery next old new
  pub replayed : answer.replayed ≡ length (filter (is_replayed old) (receipts (marks new)))
  pub resent : answer.resent ≡ messages_at old.down new
  pub undone : answer.undone + length (receipts (marks new)) ≡ length (receipts (marks old))

-- a recovery is refused exactly where nobody is down, or for lack of memory
abbrev pub IsRecoverRefusal : {S N : Type 0} → GroupRecord S N → RecoverRefusal → Type 0
IsRecoverRefusal r NotDown = r.down ≡ set.empty
IsRecoverRefusal r Memory = ¬ (r.down ≡ set.empty)

-- ---- records that are rebuilt by replay, in rounds, before a recovery changes the group

-- of each member that is down, the receipts beyond its checkpoint that the gathered table has, by their numbers
pub record AreByNumber {S N : Type 0} (r : GroupRecord S N) (receipts : List (List (Option Determinant))) : Type 0 where
  pub size : length receipts ≡ r.config.members
  pub each : (p : ℕ) → p < r.config.members → IsDown (knowledge r) p → IsByNumber p (member_checkpoint r p).received (recovery_table (knowledge r)) (slice_index_or receipts p [])

-- each member that is down has come so far in its replay, and has the gathered table
pub record AreReplaying {S N : Type 0} (next : Next S N) (r : GroupRecord S N) (rebuilt : List (MemberRecord S N)) : Type 0 where
  pub replaying : IsReplaying next r rebuilt
  pub tables : (p : ℕ) → p < r.config.members → IsDown (knowledge r) p → (slice_index_or rebuilt p (blank r.outside)).table ≡ recovery_table (knowledge r)

-- a try of the member p to replay its next receipt: one receipt more is replayed, or p waits and nothing changes
abbrev pub Tries : {S N : Type 0} → Next S N → GroupRecord S N → ℕ → List (MemberRecord S N) → List (MemberRecord S N) → Bool → Type 0
Tries next r p before after true = AreReplaying next r after × (replayed_in r after ≡ replayed_in r before + 1)
Tries next r p before after false = (after ≡ before) × IsWaiting r before p

-- tries of the members below n that are down: so many receipts are replayed, and where these are none each of them waits and nothing changes
pub record Rounds {S N : Type 0} (next : Next S N) (r : GroupRecord S N) (n : ℕ) (before after : List (MemberRecord S N)) (count : ℕ) : Type 0 where
  pub replaying : AreReplaying next r after
  pub counted : replayed_in r after ≡ replayed_in r before + count
  pub waiting : count ≡ 0 → (after ≡ before) × ((p : ℕ) → p < n → IsDown (knowledge r) p → IsWaiting r before p)

-- each member that is down has replayed what it can, so many receipts in all, and has the gathered table
pub record IsReady {S N : Type 0} (next : Next S N) (r : GroupRecord S N) (rebuilt : List (MemberRecord S N)) (count : ℕ) : Type 0 where
  pub all : AreReplaying next r rebuilt
  pub waiting : (p : ℕ) → p < r.config.members → IsDown (knowledge r) p → IsWaiting r rebuilt p
  pub counted : count ≡ replayed_in r rebuilt

-- the channels are made of what is sent again while these records stand for the members that are down
abbrev pub AreSentAgain : {S N : Type 0} → GroupRecord S N → List (MemberRecord S N) → List (List (List (Message N))) → Type 0
AreSentAgain r rebuilt again = (q p : ℕ) → q < r.config.members → p < r.config.members → channel_in again q p ≡ sent_again r.config.f r.down (working r rebuilt) q p

-- ---- crashes

-- a crash leads from old to new: the members are struck, and then all that are down are recovered
abbrev pub Crashes : {S N : Type 0} → Next S N → GroupRecord S N → GroupRecord S N → Members → Struck → Recovered → Type 0
Crashes {S} {N} next old new set struck recovered = (down : GroupRecord S N) × Strikes next old down set struck × Recovers next down new recovered

-- the crash is refused as the strike is, with nothing changed
abbrev pub IsStrikeRefused : {S N : Type 0} → GroupRecord S N → GroupRecord S N → Members → CrashRefusal → Type 0
IsStrikeRefused old new set refusal = (reason : StrikeRefusal) × (strike_refusal old set ≡ Some reason) × (of_strike reason ≡ refusal) × (new ≡ old)

-- the strike of the members leads from old to new, in which they are down
abbrev pub IsStrikeAlone : {S N : Type 0} → Next S N → GroupRecord S N → GroupRecord S N → Members → Type 0
IsStrikeAlone next old new set = (strike_refusal old set ≡ None) × ((struck : Struck) × Strikes next old new set struck)

-- what a refused crash leaves: for lack of memory the strike stands, else nothing has changed
abbrev pub CrashLeaves : {S N : Type 0} → Next S N → GroupRecord S N → GroupRecord S N → Members → CrashRefusal → Type 0
CrashLeaves next old new set crash.Memory = IsStrikeAlone next old new set
CrashLeaves next old new set refusal = IsStrikeRefused old new set refusal
