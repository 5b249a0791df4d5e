-- The sets of restarts that the moments of a run have, each with the least moment that has them.
use Rattle.std.specs.Prelude.{ℕ, ◌≡◌, ◌≢◌, ◌<◌, ◌≤◌, ◌+◌, ◌⊎◌, ◌↔◌, List, Some, length, max, slice_get, slice_index, slice_set}
use Rattle.fbl_judge.specs.declared.views.RestartPast.{RestartPast}
use Rattle.fbl_judge.specs.declared.view.RestartCounts.{RestartCounts}
use Rattle.fbl_judge.specs.declared.view.View.{View}
use Rattle.fbl_runs.specs.declared.causality.Causality.TheVariants.{HappenedBefore}
use Rattle.fbl_runs.specs.declared.entry.Entry.{Entry}
use Rattle.fbl_runs.specs.declared.entry.Entry.TheVariants.{Restart}
use Rattle.fbl_runs.specs.declared.entry.Restart as restart
use Rattle.fbl_runs.specs.Clocks.{StandsAt, cut_of, seen}
use Rattle.fbl_runs.specs.Entries.{IsArrival, Logs, log_of}
use Rattle.fbl_runs.specs.HappenedBefore.{IsAt, Position, Precedes, at}
use Rattle.fbl_runs.specs.Moments.{Cut, HasCome, HasRestarted, IsInStepOf, IsMoment, SameRestarts}
use Rattle.fbl_judge.specs.Unsafe.{restarts_at, restarts_below}

-- the cut has just what happened before the entry, with that, and its step
abbrev pub IsPastAndStep : Logs → Position → Cut → Type 0
IsPastAndStep logs j cut = (i : Position) → HasCome cut i ↔ Precedes HappenedBefore logs i j ⊎ IsInStepOf logs j i

-- so it is where a message or a control message comes in with the entry at the place, or its member is back
abbrev pub IsPastAndStepAt : List Entry → ℕ → Cut → Type 0
IsPastAndStepAt entries place cut =
    (j : Position) (e : Entry) → StandsAt entries place j → IsAt (log_of entries) j e → IsArrival e → IsPastAndStep (log_of entries) j cut

-- it is the least of the moments that have its restarts
pub record IsBase (logs : Logs) (cut : Cut) : Type 0 where
  pub moment : IsMoment logs cut
  pub least : (other : Cut) → IsMoment logs other → ((i : Position) → HasRestarted logs cut i → HasRestarted logs other i) → (q : ℕ) → cut q ≤ other q

-- the member's life at the moment: its entries from its last restart there on, up to its next one, or the end of its log
pub record IsLifeAt (logs : Logs) (cut : Cut) (q start top : ℕ) : Type 0 where
  pub begun : (start ≡ 0) ⊎ HasRestarted logs cut (at q start)
  pub come : cut q ≤ top
  pub within : top ≤ length (logs q)
  pub last : (k : ℕ) (r : restart.Restart) → k < top → IsAt logs (at q k) (Restart r) → (k ≤ start) × (k < cut q)
  pub next : top < length (logs q) → (r : restart.Restart) × IsAt logs (at q top) (Restart r)

-- so many restarts of each member have come at the cut, and so many in all
pub record AreRestartsAt (logs : Logs) (cut : Cut) (counts : RestartCounts) : Type 0 where
  pub each : (q : ℕ) → q < 16 → slice_index counts.of_members q ≡ restarts_at logs cut q
  pub total : counts.total ≡ restarts_below logs cut 16

-- the view has the least moment with some restarts, each member's life there, and how many restarts there are
pub record IsView (logs : Logs) (view : View) : Type 0 where
  pub base : IsBase logs (cut_of view.base)
  pub lives : (q : ℕ) → q < 16 → IsLifeAt logs (cut_of view.base) q (slice_index view.starts q) (slice_index view.tops q)
  pub restarts : AreRestartsAt logs (cut_of view.base) view.restarts

-- each is one, and each moment has just the restarts of one
pub record AreViews (logs : Logs) (views : List View) : Type 0 where
  pub each : (k : ℕ) (view : View) → slice_get views k ≡ Some view → IsView logs view
  pub all : (cut : Cut) → IsMoment logs cut → (k : ℕ) × (view : View) × (slice_get views k ≡ Some view) × SameRestarts logs (cut_of view.base) cut

-- ---- how they are found

-- from the first entry to the second no restart stands in the log, and the second is one, or the end
pub record IsNextRestart (log : List Entry) (start top : ℕ) : Type 0 where
  pub after : start ≤ top
  pub within : top ≤ length log
  pub none : (k : ℕ) (r : restart.Restart) → start ≤ k → k < top → ¬ (slice_get log k ≡ Some (Restart r))
  pub next : top < length log → (r : restart.Restart) × (slice_get log top ≡ Some (Restart r))

-- no restart stands between the two
pub record IsOneLife (log : List Entry) (start top : ℕ) : Type 0 where
  pub order : start ≤ top
  pub within : top ≤ length log
  pub none : (k : ℕ) (r : restart.Restart) → start < k → k < top → ¬ (slice_get log k ≡ Some (Restart r))

-- it is the restart at the place, and the next one of its member, and what happened before it, and its step
pub record IsRestartPast (entries : List Entry) (place : ℕ) (past : RestartPast) : Type 0 where
  pub stands : StandsAt entries place (at past.member past.number)
  pub top : IsNextRestart (log_of entries past.member) (past.number + 1) past.top
  pub moment : IsPastAndStepAt entries place (cut_of past.moment)

-- of this member no other restart happened before it but the view's
abbrev pub MayHaveOf : View → RestartPast → ℕ → Type 0
MayHaveOf view past q = ((q ≡ past.member) → (slice_index view.tops q ≡ past.number)) × ((q ≢ past.member) → (cut_of past.moment q ≤ slice_index view.tops q))

-- it is its member's next restart, and no others happened before it
abbrev pub MayHave : View → RestartPast → Type 0
MayHave view past = (q : ℕ) → q < 16 → MayHaveOf view past q

-- the second view has the restart too
pub record IsWith (view : View) (past : RestartPast) (more : View) : Type 0 where
  pub base : (q : ℕ) → cut_of more.base q ≡ max (cut_of view.base q) (cut_of past.moment q)
  pub starts : more.starts ≡ slice_set view.starts past.member past.number
  pub tops : more.tops ≡ slice_set view.tops past.member past.top
  pub restarts : more.restarts.of_members ≡ slice_set view.restarts.of_members past.member (slice_index view.restarts.of_members past.member + 1)
  pub total : more.restarts.total ≡ view.restarts.total + 1

-- they are these views, and those with the restart that may have it
pub record AreWith (views : List View) (past : RestartPast) (more : List View) : Type 0 where
  pub from : (k : ℕ) (w : View) → slice_get more k ≡ Some w
      → (j : ℕ) × (v : View) × (slice_get views j ≡ Some v) × ((w ≡ v) ⊎ (MayHave v past × IsWith v past w))
  pub kept : (j : ℕ) (v : View) → slice_get views j ≡ Some v → (k : ℕ) × (slice_get more k ≡ Some v)
  pub added : (j : ℕ) (v : View) → slice_get views j ≡ Some v → MayHave v past → (k : ℕ) × (w : View) × (slice_get more k ≡ Some w) × IsWith v past w

-- the restart is one of those among the first p entries of the list
abbrev pub IsAmong : List Entry → ℕ → Position → Type 0
IsAmong entries p i = i.number < seen entries p i.member

-- each is a view, of no more than p restarts, and each moment has, of the restarts among the first p entries, just those of one
pub record AreViewsOf (entries : List Entry) (p : ℕ) (views : List View) : Type 0 where
  pub each : (k : ℕ) (view : View) → slice_get views k ≡ Some view → IsView (log_of entries) view × (view.restarts.total ≤ p)
  pub all : (cut : Cut) → IsMoment (log_of entries) cut
      → (k : ℕ) × (view : View) × (slice_get views k ≡ Some view)
      × ((i : Position) → HasRestarted (log_of entries) (cut_of view.base) i ↔ HasRestarted (log_of entries) cut i × IsAmong entries p i)
