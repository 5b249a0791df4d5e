-- What is the same for each order of what is recorded of a run.
use Rattle.std.specs.Prelude.{ℕ, ◌≡◌, ◌↔◌, List}
use Rattle.std.specs.List.{Contains}
use Rattle.std.specs.List.Sorted.{IsPermutation}
use Rattle.fbl_trace.specs.declared.trace.Determinant.{Determinant}
use Rattle.fbl_trace.specs.declared.trace.Mark.{Mark}
use Rattle.fbl_trace.specs.Precedence.{Depends, Precedes}
use Rattle.fbl_trace.specs.Rules.{WellFormed}
use Rattle.fbl_trace.specs.Dumps.{IsDump, Parts}
use Rattle.fbl_trace.specs.Losses.{IsDumpOrphan, lost_determinants}
use Rattle.fbl_runs.specs.declared.entry.Entry.{Entry}
use Rattle.fbl_runs.specs.HappenedBefore.{Position}
use Rattle.fbl_runs.specs.Logs.{IsLog, RunParts, run_of, run_of_dump}
use Rattle.fbl_runs.specs.Moments.{last_cut}
use Rattle.fbl_runs.specs.Runs.{IsOrphanAt, IsSafe, LosesReceiptAt}
use Rattle.fbl_judge.specs.declared.check.UnsafeReceipt.{UnsafeReceipt}
use Rattle.fbl_judge.specs.Laws.{SaySame}
use Rattle.fbl_judge.specs.Unsafe.{IsSaidOf, IsUnsafe}
use Rattle.fbl_runs.specs.Rules.{have_lives}
use Rattle.fbl_order.specs.Orders.{ArePlaces, IsOrder, IsOrderOfEntries, SameLogs, StandInOrder, items_at, with_entries, with_events}

-- ---- lists of events in which each member has the same log

-- the same events precede one another in both, and the same members depend on them
pub record SamePrecedence (s t : List Mark) : Type 0 where
  pub precedes : (a b : Mark) → Precedes s a b ↔ Precedes t a b
  pub depends : (member : ℕ) (a : Mark) → Depends s member a ↔ Depends t member a

abbrev pub PrecedenceLaw : Type 0
PrecedenceLaw = (n : ℕ) (s t : List Mark) → WellFormed n s → WellFormed n t → SameLogs s t → SamePrecedence s t

-- lists with the same logs have the same events, each as often, whether or not they obey the rules
abbrev pub SameEventsLaw : Type 0
SameEventsLaw = (s t : List Mark) → SameLogs s t → IsPermutation s t

-- ---- runs

-- an audit answers the same of both runs, and so does a check, but for the places
pub record SameAnswers (a b : RunParts) : Type 0 where
  pub loses : (i : Position) → LosesReceiptAt (run_of a) (last_cut (run_of a).logs) a.strike i ↔ LosesReceiptAt (run_of b) (last_cut (run_of b).logs) b.strike i
  pub orphans : (member : ℕ) → IsOrphanAt (run_of a) (last_cut (run_of a).logs) a.strike member ↔ IsOrphanAt (run_of b) (last_cut (run_of b).logs) b.strike member
  pub safe : IsSafe (run_of a) ↔ IsSafe (run_of b)
  pub unsafe : (i : Position) → IsUnsafe (run_of a) i ↔ IsUnsafe (run_of b) i
  pub said : (i : Position) (said other : UnsafeReceipt) → IsSaidOf a i said → IsSaidOf b i other → SaySame a.entries b.entries said other

-- ---- dumps

-- so it is of both dumps
pub record SameDumpAnswers (a b : Parts) : Type 0 where
  pub lost : (d : Determinant) → Contains (lost_determinants a) d ↔ Contains (lost_determinants b) d
  pub orphans : (member : ℕ) → IsDumpOrphan a member ↔ IsDumpOrphan b member
  pub run : SameAnswers (run_of_dump a) (run_of_dump b)

-- whichever order the events had, of this dump, with one of them, the same is answered
abbrev pub DumpsAnswerAlike : Parts → Parts → Type 0
DumpsAnswerAlike dump ordered =
    (events : List Mark) → IsOrder dump.members dump.events events → SameDumpAnswers (with_events events dump) ordered

-- a dump may have its events in any other order that obeys the rules and keeps the members' logs
abbrev pub AnswersLaw : Type 0
AnswersLaw =
    (dump : Parts) (events : List Mark) → IsDump dump → IsOrder dump.members dump.events events
    → IsDump (with_events events dump) × SameDumpAnswers dump (with_events events dump)

-- ---- logs

-- whichever order the entries had, of this log, with one of them, the same is answered
abbrev pub AnswersAlike : RunParts → RunParts → Type 0
AnswersAlike log ordered =
    (entries : List Entry) → IsOrderOfEntries log.members log.entries entries → SameAnswers (with_entries entries log) ordered

-- a log may have its entries in any other order
abbrev pub LogAnswersLaw : Type 0
LogAnswersLaw =
    (log : RunParts) (entries : List Entry) → IsLog log → IsOrderOfEntries log.members log.entries entries
    → IsLog (with_entries entries log) × SameAnswers log (with_entries entries log)

-- the log is the whole, but for its entries, which stand in an order, each given at a place; where these stood in an order, they stand as
-- they did; and in whichever order they stand, a check finds the same receipts unsafe
pub record IsOrderedLog (whole log : RunParts) (places : List ℕ) : Type 0 where
  pub rules : IsLog log
  pub parts : log ≡ with_entries log.entries whole
  pub order : IsOrderOfEntries whole.members whole.entries log.entries
  pub given : ArePlaces whole.entries log.entries places
  pub kept : StandInOrder (have_lives whole.entries) whole.members whole.entries → log ≡ whole
  pub answers : AnswersAlike whole log

-- the same where the whole's entries were given at places before, from which the log's come
abbrev pub IsOrderGiven : RunParts → List ℕ → RunParts → List ℕ → Type 0
IsOrderGiven whole given log places = (own : List ℕ) × IsOrderedLog whole log own × (places ≡ items_at given own)
