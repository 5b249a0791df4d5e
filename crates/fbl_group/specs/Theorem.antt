-- The theorem, of every group between any two calls. Family-based logging is that of Alvisi, Hoppe and Marzullo (FTCS 1993); that no
-- member becomes an orphan is the condition of Alvisi and Marzullo, Message Logging (IEEE TSE 24(2), 1998).
use Rattle.std.specs.Prelude.{◌≡◌, ℕ, ◌<◌, None}
use Rattle.std.specs.FinSet as set
use Rattle.fbl_trace.specs.MemberSets.{Members}
use Rattle.fbl_trace.specs.Fold.{Next}
use Rattle.fbl_law.specs.Knowledge.{IsDown, IsOrphan, IsUp}
use Rattle.fbl_law.specs.GroupSteps.{IsEventCut, Stays}
use Rattle.fbl_law.specs.Groups.{GroupRecord, channel, knowledge, member, IsFold}
use Rattle.fbl_law.specs.Promises.{HoldsEachReceipt, LeavesRecorded}
use Rattle.fbl_group.specs.declared.answers.Recovered.{Recovered}
use Rattle.fbl_group.specs.declared.answers.Struck.{Struck}
use Rattle.fbl_group.specs.Strikes.{Recovers, Strikes, strike_refusal}

-- strikes lead from one group to the other: none, or several, each of which was allowed
pub data AreStruck {S N : Type 0} (next : Next S N) (first : GroupRecord S N) : GroupRecord S N → Type 0 where
  nobody : AreStruck next first first
  and_these : {old new : GroupRecord S N} {struck : Members} {answer : Struck}
      → AreStruck next first old → strike_refusal old struck ≡ None → Strikes next old new struck answer → AreStruck next first new

-- no survivor depends on a receipt that no survivor and no checkpoint has recorded
abbrev pub HasNoOrphan : {S N : Type 0} → GroupRecord S N → Type 0
HasNoOrphan r = (m : ℕ) → ¬ (IsOrphan (knowledge r) m)

-- there is a recovery of the group, and no other: what it leaves and answers follows from the group
pub record HasOneRecovery {S N : Type 0} (next : Next S N) (old : GroupRecord S N) : Type 0 where
  pub new : GroupRecord S N
  pub answer : Recovered
  pub recovers : Recovers next old new answer
  pub only : (other : GroupRecord S N) (said : Recovered) → Recovers next old other said → (other ≡ new) × (said ≡ answer)

-- nobody is down any more; survivors, the channels between them and the configuration are untouched; the trace loses exactly the
-- events that don't stay; and each member that was down is at the fold of its receipts, of which exactly the recorded ones are left
pub record Restores {S N : Type 0} (next : Next S N) (old new : GroupRecord S N) : Type 0 where
  pub nobody_down : new.down ≡ set.empty
  pub survivors : (m : ℕ) → IsUp (knowledge old) m → member new m ≡ member old m
  pub channels : (q p : ℕ) → IsUp (knowledge old) q → IsUp (knowledge old) p → channel new q p ≡ channel old q p
  pub config : new.config ≡ old.config
  pub trace : IsEventCut (Stays (knowledge old)) old.trace new.trace
  pub folds : (m : ℕ) → m < old.config.members → IsDown (knowledge old) m → IsFold next new m
  pub left : LeavesRecorded old new

-- where nobody is down, each receipt's determinant is held by more than f members or by every member whose state depends on
-- it; whichever members are then struck, in one call or several, no survivor depends on a receipt that no survivor and no
-- checkpoint has recorded; a recovery restores each struck member; and there is one recovery, and no other
pub record IsRecoverable {S N : Type 0} (next : Next S N) (r : GroupRecord S N) : Type 0 where
  pub held : HoldsEachReceipt r
  pub no_orphan : (struck : GroupRecord S N) → AreStruck next r struck → HasNoOrphan struck
  pub recovery : (struck new : GroupRecord S N) (answer : Recovered) → AreStruck next r struck → Recovers next struck new answer → Restores next struck new
  pub one_recovery : (struck : GroupRecord S N) → AreStruck next r struck → HasOneRecovery next struck
