-- How a drain leads from one record of a group to another.
use Rattle.std.specs.Prelude.{◌≡◌, ℕ, ◌+◌, ◌<◌, ◌⊎◌, Bool, true, false, List, Some, None, slice_index, slice_set}
use Rattle.std.proofs.Math.ListN.{replicate}
use Rattle.fbl_trace.specs.MemberSets.{Members}
use Rattle.fbl_trace.specs.Fold.{Next}
use Rattle.fbl_trace.specs.declared.strike.Strike.{Strike}
use Rattle.fbl_law.specs.Groups.{GroupRecord}
use Rattle.fbl_group.specs.declared.answers.Recovered.{Recovered}
use Rattle.fbl_trace.specs.declared.ticket.Ticket.{Ticket}
use Rattle.fbl_group.specs.declared.refusals.CommitRefusal.TheVariants.{Full, Stale, Down}
use Rattle.fbl_group.specs.Deliveries.{MayCommit, RefusesCommit}
use Rattle.fbl_group.specs.Records.{Commits, IsPlannedCrash}
use Rattle.fbl_group.specs.Strikes.{IsStrikeAlone}
use Rattle.fbl_turns.specs.Plans.{struck_at}

-- what workers did: how many receipts each has committed, and how many the recoveries that each ran have undone; whether
-- a commit was refused by want of room in the trace, and whether a commit or a recovery was by lack of memory
pub record Counts : Type 0 where
  pub by_worker : List ℕ
  pub undone_by_worker : List ℕ
  pub full : Bool
  pub memory : Bool

-- so many workers have done nothing
abbrev pub nothing_done : ℕ → Counts
nothing_done workers = record { by_worker = replicate workers 0; undone_by_worker = replicate workers 0; full = false; memory = false }

-- so many more at the worker's place
abbrev pub more_at : List ℕ → ℕ → ℕ → List ℕ
more_at counts w n = slice_set counts w (slice_index counts w + n)

-- worker w has committed one receipt more
abbrev pub commits_one : ℕ → Counts → Counts
commits_one w c = record c { by_worker = more_at c.by_worker w 1 }

-- a recovery that worker w ran has undone so many receipts
abbrev pub undoes : ℕ → ℕ → Counts → Counts
undoes w n c = record c { undone_by_worker = more_at c.undone_by_worker w n }

-- a commit was refused by want of room
abbrev pub meets_full : Counts → Counts
meets_full c = record c { full = true }

-- a commit or a recovery was refused by lack of memory
abbrev pub lacks_memory : Counts → Counts
lacks_memory c = record c { memory = true }

-- what one hold of the lock, in which worker w commits the step with this ticket under the plan, makes of the record and of
-- the counts, and whether the worker ends by it: it does where there is no room in the trace, or no memory
pub data Turn {S N : Type 0} (next : Next S N) (plan : List Strike) (w : ℕ) (ticket : Ticket S N) (old : GroupRecord S N) (c : Counts) : GroupRecord S N → Counts → Bool → Type 0 where
  -- a commit, at a number of receipts at which the plan strikes nobody
  commits : (new : GroupRecord S N) → Commits next old new ticket → struck_at plan new.receipts_ever ≡ None → Turn next plan w ticket old c new (commits_one w c) false
  -- a commit, and the crash of the members that the plan has at the number of receipts that the commit came to
  crashes : (between new : GroupRecord S N) (members : Members) (recovered : Recovered)
      → Commits next old between ticket → struck_at plan between.receipts_ever ≡ Some members → IsPlannedCrash next between new members recovered
      → Turn next plan w ticket old c new (undoes w recovered.undone (commits_one w c)) false
  -- the same, where memory ran out for the recovery: the strike stands
  strikes : (between new : GroupRecord S N) (members : Members)
      → Commits next old between ticket → struck_at plan between.receipts_ever ≡ Some members → IsStrikeAlone next between new members
      → Turn next plan w ticket old c new (lacks_memory (commits_one w c)) true
  -- a commit that is refused by want of room in the trace
  is_full : RefusesCommit next old ticket Full → Turn next plan w ticket old c old (meets_full c) true
  -- a commit that is refused by lack of memory
  wants : MayCommit next old ticket → Turn next plan w ticket old c old (lacks_memory c) true
  -- a commit that is refused since the ticket is no longer that of the group, or somebody is down
  is_late : RefusesCommit next old ticket Stale ⊎ RefusesCommit next old ticket Down → Turn next plan w ticket old c old c false

-- so many workers, under the plan, lead from start to this record and these counts, turn by turn
pub data Reached {S N : Type 0} (next : Next S N) (plan : List Strike) (workers : ℕ) (start : GroupRecord S N) : GroupRecord S N → Counts → Type 0 where
  starts : Reached next plan workers start start (nothing_done workers)
  turns : (old new : GroupRecord S N) (before after : Counts) (w : ℕ) (ticket : Ticket S N) {ends : Bool}
      → Reached next plan workers start old before → w < workers → Turn next plan w ticket old before new after ends
      → Reached next plan workers start new after
