-- Which entry may come behind others, and what is known of these by which that is decided.
use Rattle.std.specs.Prelude.{ℕ, ◌≡◌, ◌⊎◌, Bool, true, false, List, Some}
use Rattle.fbl_trace.specs.Breaches.{BreaksEvent}
use Rattle.fbl_trace.specs.declared.trace.Determinant.{Determinant}
use Rattle.fbl_trace.specs.declared.trace.Mark.{Mark}
use Rattle.fbl_trace.specs.Rules.{Counted, MayFollow}
use Rattle.fbl_runs.specs.declared.entry.Entry.{Entry}
use Rattle.fbl_runs.specs.ControlMessages.{BreaksControl, HasTold, MayBeTold}
use Rattle.fbl_runs.specs.Entries.{log_of, mark_in, marks, named_life, receipt_in}
use Rattle.fbl_runs.specs.LifeRules.{HasFollowed}
use Rattle.fbl_runs.specs.declared.fault.ControlRule.TheVariants.{NotTold}
use Rattle.fbl_runs.specs.declared.fault.LifeRule.TheVariants.{ControlMessages, NotDue}
use Rattle.fbl_runs.specs.Rules as lives
use Rattle.fbl_order.specs.declared.known.BrokenRule.{BrokenRule}
use Rattle.fbl_order.specs.declared.known.BrokenRule.TheVariants as broken
use Rattle.fbl_order.specs.declared.known.Known.{Known}
use Rattle.fbl_order.specs.declared.known.Known.TheVariants.{Lives, Trace}
use Rattle.fbl_order.specs.declared.known.KnownTrace.{KnownTrace}

-- the entry may come behind the run: if it is a send or a receipt, this obeys the rules there
abbrev pub MayFollowAs : ℕ → List Mark → Entry → Type 0
MayFollowAs n run e = (m : Mark) → mark_in e ≡ Some m → MayFollow n run m

-- the entry may come behind these: it obeys the rules of sends and receipts there, and those of control messages; in a log with restarts
-- it obeys the rules of these
abbrev pub MayCome : Bool → ℕ → List Entry → Entry → Type 0
MayCome false n before e = MayFollowAs n (marks before) e × MayBeTold n before e
MayCome true n before e = lives.MayFollow n before e

-- if it comes behind these the entry breaks this rule first
abbrev pub Breaks : Bool → ℕ → List Entry → Entry → BrokenRule → Type 0
Breaks false n before e (broken.Event rule) = (m : Mark) × (mark_in e ≡ Some m) × BreaksEvent n (marks before) m rule
Breaks false n before e (broken.Control rule) = BreaksControl n before e rule
Breaks true n before e (broken.Life rule) = lives.BreaksLife n before e rule
Breaks lived n before e rule = ⊥

-- of these entries the sends and receipts are known, with their counts, and what was told
pub record KnowsTrace (before : List Entry) (known : KnownTrace) : Type 0 where
  pub run : known.run.items ≡ marks before
  pub counted : Counted known.run.items known.counts
  pub control : HasTold before known.control

-- that is known of these entries, or in a log with restarts what a pass over them knows
abbrev pub Knows : Bool → List Entry → Known → Type 0
Knows false before (Trace known) = KnowsTrace before known
Knows true before (Lives known) = HasFollowed before known
Knows lived before known = ⊥

-- ---- messages that are not there

-- in a log with restarts no message is there for the entry behind these: no send of it stands in the life of its sender that the receipt
-- names, or nobody told what its member is told
abbrev pub LacksInLife : ℕ → List Entry → Entry → Type 0
LacksInLife n before e =
    (lives.BreaksLife n before e NotDue
    × ((d : Determinant) × (receipt_in e ≡ Some d) × ¬ ((k : ℕ) × lives.IsSentInLife (log_of before) d.from d.ssn d.to (named_life e) k)))
    ⊎ lives.BreaksLife n before e (ControlMessages NotTold)
