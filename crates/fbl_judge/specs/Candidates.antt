-- How what is said of an unsafe receipt is found.
use Rattle.std.specs.Prelude.{ℕ, ◌≡◌, ◌≢◌, ◌<◌, ◌≤◌, ◌⊎◌, ◌↔◌, true, false, List, Option, Some, None, slice_get, slice_index}
use Rattle.std.specs.FinSet as set
use Rattle.fbl_trace.specs.declared.trace.Determinant.{Determinant}
use Rattle.fbl_trace.specs.MemberSets.{Members}
use Rattle.fbl_judge.specs.declared.check.Candidate.{Candidate}
use Rattle.fbl_judge.specs.declared.check.UnsafeReceipt.{UnsafeReceipt}
use Rattle.fbl_judge.specs.declared.view.RestartCounts.{RestartCounts}
use Rattle.fbl_judge.specs.declared.view.View.{View}
use Rattle.fbl_judge.specs.Unsafe.{ComesFirst, IsCandidate, IsFewer, IsLeastStrike, IsLeftOrphanAt, IsNamed, IsUnsafeAt}
use Rattle.fbl_judge.specs.Views.{AreRestartsAt}
use Rattle.fbl_runs.specs.declared.entry.Entry.{Entry}
use Rattle.fbl_runs.specs.Clocks.{StandsAt, cut_of}
use Rattle.fbl_runs.specs.Entries.{Logs, receipt_in}
use Rattle.fbl_runs.specs.HappenedBefore.{Position}
use Rattle.fbl_runs.specs.Logs.{RunParts, run_of}
use Rattle.fbl_runs.specs.Moments.{Cut, DependsAt, IsLeastDependent, IsMoment, SameRestarts, Stands, last_cut}
use Rattle.fbl_runs.specs.Runs.{Run}

-- the entry at the place is a receipt that the determinant names
abbrev pub IsReceiptHere : List Entry → ℕ → Determinant → Type 0
IsReceiptHere entries place d = (e : Entry) × (slice_get entries place ≡ Some e) × (receipt_in e ≡ Some d)

-- what is said is said of the receipt, which stands at the cut: the least members whose loss loses it there, and whom it leaves as orphans
pub record IsSaidWith (run : Run) (cut : Cut) (i : Position) (p : ℕ) (d : Determinant) (said : UnsafeReceipt) : Type 0 where
  pub place : said.place ≡ p
  pub determinant : said.determinant ≡ d
  pub moment : cut_of said.moment ≡ cut
  pub stands : Stands run.logs cut i
  pub strike : IsLeastStrike run cut d said.strike
  pub orphans : (q : ℕ) → (set.contains said.orphans q ≡ true) ↔ IsLeftOrphanAt run cut said.strike i q
  pub some : (q : ℕ) × (set.contains said.orphans q ≡ true)

-- ---- at the end

abbrev pub IsUnsafeAtEnd : Run → Position → Type 0
IsUnsafeAtEnd run i = IsUnsafeAt run (last_cut run.logs) i

abbrev pub IsSaidAtEnd : Run → Position → ℕ → Determinant → UnsafeReceipt → Type 0
IsSaidAtEnd run i place d said = (said.at ≡ None) × (said.shown ≡ said.orphans) × IsSaidWith run (last_cut run.logs) i place d said

-- ---- at moments

-- no more entries of any member have come than its life there has
abbrev pub IsWithin : View → Cut → Type 0
IsWithin view cut = (q : ℕ) → q < 16 → cut q ≤ slice_index view.tops q

-- at no moment with just these restarts the member depends on the receipt
abbrev pub NoneDepends : Logs → Position → ℕ → Cut → Type 0
NoneDepends logs i q base = (cut : Cut) → IsMoment logs cut → SameRestarts logs base cut → ¬ (DependsAt logs cut i q)

-- it is the least moment with just these restarts at which the member depends on the receipt
abbrev pub IsLeastIn : Logs → Position → ℕ → Cut → Cut → Type 0
IsLeastIn logs i q base cut = SameRestarts logs base cut × IsLeastDependent logs i q cut

-- it is one of the receipt, and has its moment's restarts
pub record IsCandidateOf (run : Run) (i : Position) (d : Determinant) (candidate : Candidate) : Type 0 where
  pub is : IsCandidate run i d candidate.orphan (cut_of candidate.moment) candidate.strike
  pub restarts : AreRestartsAt run.logs (cut_of candidate.moment) candidate.restarts

-- of the candidates at whose orphan and moment P holds it comes first, if there is one
abbrev pub IsFirstAmong : Run → Position → Determinant → (ℕ → Cut → Type 0) → Option Candidate → Type 0
IsFirstAmong run i d P None = (q : ℕ) (cut : Cut) (members : Members) → P q cut → ¬ (IsCandidate run i d q cut members)
IsFirstAmong run i d P (Some first) =
    IsCandidateOf run i d first
    × ((q : ℕ) (cut : Cut) (members : Members) → P q cut → IsCandidate run i d q cut members
    → ComesFirst run.logs first.strike first.orphan (cut_of first.moment) members q cut)

-- the orphan is the member, and the moment has just these restarts
abbrev pub IsOfMember : Logs → Cut → ℕ → ℕ → Cut → Type 0
IsOfMember logs base member q cut = (q ≡ member) × SameRestarts logs base cut

-- the orphan is a lesser member
abbrev pub IsOfLesser : Logs → Cut → ℕ → ℕ → Cut → Type 0
IsOfLesser logs base n q cut = (q < n) × SameRestarts logs base cut

-- the moment has just the restarts of one of these views
abbrev pub IsOfViews : Logs → List View → ℕ → Cut → Type 0
IsOfViews logs views q cut = (q < 16) × ((k : ℕ) × (view : View) × (slice_get views k ≡ Some view) × SameRestarts logs (cut_of view.base) cut)

-- any orphan, at any moment
abbrev pub IsAny : ℕ → Cut → Type 0
IsAny q cut = Unit {0}

-- ---- of two candidates one

-- as many restarts of each member have come
abbrev pub IsAlike : List ℕ → List ℕ → Type 0
IsAlike first other = (k : ℕ) → k < 16 → slice_index first k ≡ slice_index other k

-- the least member of whose restarts there are not as many
pub record IsLeastUnlike (first other : List ℕ) (m : ℕ) : Type 0 where
  pub unlike : slice_index first m ≢ slice_index other m
  pub below : m < 16
  pub alike : (k : ℕ) → k < m → slice_index first k ≡ slice_index other k

-- of the least member of whose restarts there are not as many the first has more
abbrev pub HasMoreAtFirst : List ℕ → List ℕ → Type 0
HasMoreAtFirst first other =
    (m : ℕ) × (m < 16) × (slice_index other m < slice_index first m) × ((k : ℕ) → k < m → slice_index first k ≡ slice_index other k)

-- the first has fewer restarts, or as many whose list comes first, or the same
abbrev pub HasFewer : RestartCounts → RestartCounts → Type 0
HasFewer first other =
    (first.total < other.total)
    ⊎ ((first.total ≡ other.total) × (HasMoreAtFirst first.of_members other.of_members ⊎ IsAlike first.of_members other.of_members))

-- by these the first comes first
abbrev pub IsBefore : Candidate → Candidate → Type 0
IsBefore first other =
    IsFewer first.strike other.strike
    ⊎ ((first.strike ≡ other.strike) × ((first.orphan < other.orphan) ⊎ ((first.orphan ≡ other.orphan) × HasFewer first.restarts other.restarts)))

-- each of the receipt's candidates with just these restarts has the members struck
abbrev pub AreStruckInAll : Run → Position → Determinant → Cut → Members → Type 0
AreStruckInAll run i d base least =
    (q : ℕ) (cut : Cut) (members : Members) → SameRestarts run.logs base cut → IsCandidate run i d q cut members
    → (r : ℕ) → set.contains least r ≡ true → set.contains members r ≡ true

-- it is a candidate, and those are all that it has struck
abbrev pub IsStruckWithin : Members → Option Candidate → Type 0
IsStruckWithin least None = ⊥
IsStruckWithin least (Some candidate) = (r : ℕ) → set.contains candidate.strike r ≡ true → set.contains least r ≡ true

-- of two the result is the one that comes first
abbrev pub IsFirstOf : Option Candidate → Option Candidate → Option Candidate → Type 0
IsFirstOf None next result = result ≡ next
IsFirstOf (Some first) None result = result ≡ Some first
IsFirstOf (Some first) (Some next) result =
    ((result ≡ Some first) × IsBefore first next) ⊎ ((result ≡ Some next) × IsBefore next first)

-- the least member of the first set that the other does not have
pub record IsLeastOut (first other : Members) (m : ℕ) : Type 0 where
  pub own : set.contains first m ≡ true
  pub out : set.contains other m ≡ false
  pub least : (k : ℕ) → k < m → set.contains first k ≡ true → set.contains other k ≡ true

-- ---- what is said

-- what is said is said of the candidate, whose entry has the place
pub record IsSaidOfCandidate (run : RunParts) (i : Position) (place : ℕ) (d : Determinant) (candidate : Candidate) (said : UnsafeReceipt) : Type 0 where
  pub at : ℕ
  pub listed : said.at ≡ Some at
  pub named : (k : Position) × StandsAt run.entries at k × IsNamed (run_of run) i candidate.orphan (cut_of candidate.moment) k
  pub shown : said.shown ≡ set.insert set.empty candidate.orphan
  pub strike : said.strike ≡ candidate.strike
  pub says : IsSaidWith (run_of run) (cut_of candidate.moment) i place d said

-- what is said is said of the candidate that comes first of all, if there is one
abbrev pub IsSaidFirst : RunParts → Position → ℕ → Determinant → Option UnsafeReceipt → Type 0
IsSaidFirst run i place d None = IsFirstAmong (run_of run) i d IsAny None
IsSaidFirst run i place d (Some said) = (first : Candidate) × IsFirstAmong (run_of run) i d IsAny (Some first) × IsSaidOfCandidate run i place d first said
