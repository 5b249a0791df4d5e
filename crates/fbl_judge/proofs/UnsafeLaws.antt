-- What is said of a receipt holds, and nothing is said where it is safe.
use Rattle.fbl_judge.proofs.Common.{ℕ, zero, suc, Bool, true, false, ◌≡◌, ◌<◌, ◌≤◌, ◌+◌, ◌⊎◌, ◌↔◌, inl, inr, List, [], ◌∷◌, ◌++◌, Option, Some, None, MatchOption, length, slice_get, take, refl, sym, ap, subst, ◌∙◌, arith}
use Rattle.fbl_judge.proofs.Common.{cases_lt, false≢true, slice_get_within, Determinant, AllBelow, Members, contains-union}
use Rattle.fbl_judge.proofs.Common.{Entry, Logs, log_of, receipt_in, Position, at, Cut, DependsAt, HoldsAt, IsLeastDependent, IsMoment, IsReceiptAt, SameRestarts, Stands}
use Rattle.fbl_judge.proofs.Common.{AreEntries, AreStruckOrHold, IsJudgedAt, IsSafe, LosesAt, Run, bound, last_cut, len-within}
use Rattle.fbl_trace.specs.MemberSets.{same_from_contains}
use Rattle.std.specs.FinSet as set
use Rattle.std.proofs.lemmas.Bool.{cases_order}
use Rattle.fbl_runs.proofs.ClockLaws.{last_there}
use Rattle.fbl_judge.specs.declared.check.Candidate.{Candidate}
use Rattle.fbl_judge.specs.declared.check.UnsafeReceipt.{UnsafeReceipt}
use Rattle.fbl_judge.specs.declared.view.RestartCounts.{RestartCounts}
use Rattle.fbl_judge.specs.declared.view.View.{View}
use Rattle.fbl_runs.specs.Clocks.{StandsAt, cut_of}
use Rattle.fbl_runs.specs.Rules.{restarts}
use Rattle.fbl_runs.specs.Logs.{RunParts, run_of}
use Rattle.fbl_judge.specs.Unsafe.{ComesFirst, HasFewerRestarts, IsCandidate, IsFewer, IsFirstCandidate, IsLeastLoss, IsLeastStrike, IsLeftOrphanAt, IsNamed, IsReceiptPlace, IsSaidAt, IsSaidOf, IsUnsafe, IsUnsafeAt, ListsFirst, RestartsFirst, SaysUnsafe, restarts_at}
use Rattle.fbl_judge.specs.Candidates.{HasFewer, IsAny, IsBefore, IsCandidateOf, IsFirstAmong, IsFirstOf, IsLeastIn, IsLeastOut, IsOfLesser, IsOfMember, IsOfViews, IsSaidAtEnd, IsSaidFirst, IsSaidWith, IsUnsafeAtEnd, NoneDepends}
use Rattle.fbl_judge.specs.Views.{AreRestartsAt}
use Rattle.fbl_runs.specs.declared.judged.Judged.{Judged}
use Rattle.fbl_runs.specs.declared.judged.Judged.TheVariants.{AtEachMoment, AtItsEnd}
use Rattle.fbl_trace.proofs.Gets.{At-push, take-more}
use Rattle.fbl_trace.proofs.Sets.{len-remove_one}
use Rattle.fbl_runs.proofs.LeadsLaws.{stands_somewhere}
use Rattle.fbl_runs.proofs.Listing.{stands_at}
use Rattle.fbl_judge.proofs.MomentLaws.{holds_later, stands_earlier, stored_later}
use Rattle.fbl_judge.proofs.SafeAlways.{come_there, loses, lost_contains, may_be_lost, none_beyond, of_group, some_least_dependent, some_struck_or_hold}
use Rattle.fbl_judge.proofs.ViewLaws.{count_same, sum_same}

-- ---- at one cut

-- two sets of the same members are the same
pub same_members : (P : ℕ → Type 0) (a b : Members) → ((q : ℕ) → (set.contains a q ≡ true) ↔ P q) → ((q : ℕ) → (set.contains b q ≡ true) ↔ P q) → a ≡ b
same_members P a b of_a of_b = same_from_contains a b (λ q. same (set.contains a q) refl (set.contains b q) refl (of_a q) (of_b q)) where
  same : {P : Type 0} {x y : Bool} (b : Bool) → x ≡ b → (c : Bool) → y ≡ c → ((x ≡ true) ↔ P) → ((y ≡ true) ↔ P) → x ≡ y
  same true is_b true is_c p q = is_b ∙ sym is_c
  same false is_b false is_c p q = is_b ∙ sym is_c
  same true is_b false is_c p q = absurd (false≢true (sym is_c ∙ q.1 (p.0 is_b)))
  same false is_b true is_c p q = absurd (false≢true (sym is_b ∙ p.1 (q.0 is_c)))

-- the same members are struck or hold the determinant
pub one_set : (run : Run) (cut : Cut) (d : Determinant) (a b : Members) → AreStruckOrHold run cut d a → AreStruckOrHold run cut d b → a ≡ b
one_set run cut d = same_members (λ q. (set.contains run.strike q ≡ true) ⊎ HoldsAt run.logs cut d q)

-- two least moments with the same restarts are the same
pub one_least : (logs : Logs) (i : Position) (q : ℕ) (a b : Cut) → IsLeastDependent logs i q a → IsLeastDependent logs i q b → SameRestarts logs a b → a ≡ b
one_least logs i q a b of_a of_b same =
    let equal = λ (p : ℕ). both_ways (a p) (b p) (of_a.least b of_b.moment same of_b.depends p) (of_b.least a of_a.moment (λ r. ((same r).1, (same r).0)) of_a.depends p) in
    λ i p. equal p i where
      both_ways : (x y : ℕ) → x ≤ y → y ≤ x → x ≡ y
      both_ways x y below above = omega arith

pub struck_or_held : (run : Run) (cut : Cut) (d : Determinant) (strike holders : Members) → strike ≡ set.union run.strike holders → ((q : ℕ) → (set.contains holders q ≡ true) ↔ HoldsAt run.logs cut d q)
    → AreStruckOrHold run cut d strike
struck_or_held run cut d strike holders is held q = (
  λ h. elim ((contains-union run.strike holders q).0 (ap (λ s. set.contains s q) (sym is) ∙ h)) [ inl x ↦ inl x | inr x ↦ inr ((held q).0 x) ],
  λ h. ap (λ s. set.contains s q) is ∙ (contains-union run.strike holders q).1 (elim h [ inl x ↦ inl x | inr x ↦ inr ((held q).1 x) ]),
)

-- no members lose a receipt at a cut where those struck and those that hold it are too many
pub too_many_struck : (run : Run) (cut : Cut) (d : Determinant) (strike : Members) → AreStruckOrHold run cut d strike → bound run < set.len strike → (other : Members) → ¬ (IsLeastStrike run cut d other)
too_many_struck run cut d strike are many other least = (let same = ap set.len (one_set run cut d other strike least.least are) in let few = least.few in omega (arith, same, few, many))

-- ---- the order of candidates

-- of three lists, as long, the first comes before the third
lists_joined : (a b c : Members) → ListsFirst a b → ListsFirst b c → ListsFirst a c
lists_joined a b c ab bc = elim (cases_order ab.0 bc.0) [
  | inl same ↦ absurd (let has = subst (λ (m : ℕ). set.contains b m ≡ true) (sym same) bc.1 in false≢true (sym ab.2 ∙ has))
  | inr (inl less) ↦ (ab.0, ab.1, sym (bc.3 ab.0 less) ∙ ab.2, λ k below. ab.3 k below ∙ bc.3 k (omega (arith, below, less)))
  | inr (inr more) ↦ (bc.0, ab.3 bc.0 more ∙ bc.1, bc.2, λ k below. ab.3 k (omega (arith, below, more)) ∙ bc.3 k below)
]

pub fewer_joined : (a b c : Members) → IsFewer a b → IsFewer b c → IsFewer a c
fewer_joined a b c (inl ab) (inl bc) = inl (omega (arith, ab, bc))
fewer_joined a b c (inl ab) (inr bc) = inl (let e = bc.0 in omega (arith, ab, e))
fewer_joined a b c (inr ab) (inl bc) = inl (let e = ab.0 in omega (arith, bc, e))
fewer_joined a b c (inr ab) (inr bc) = inr (ab.0 ∙ bc.0, lists_joined a b c ab.1 bc.1)

-- of two sets, the first of which is within the other, the lists are the same or the other's comes first
pub within_first : (a b : Members) (o : Option ℕ) → ((q : ℕ) → set.contains a q ≡ true → set.contains b q ≡ true) → MatchOption o ((q : ℕ) → set.contains b q ≡ true → set.contains a q ≡ true) (IsLeastOut b a)
    → (a ≡ b) ⊎ ListsFirst b a
within_first a b None within back = inl (same_members (λ q. set.contains b q ≡ true) a b (λ q. (within q, back q)) (λ q. (λ h. h, λ h. h)))
within_first a b (Some m) within is = inr (m, is.own, is.out, λ k below. same (set.contains b k) refl (set.contains a k) refl (is.least k below) (within k)) where
  same : {x y : Bool} (b : Bool) → x ≡ b → (c : Bool) → y ≡ c → (x ≡ true → y ≡ true) → (y ≡ true → x ≡ true) → x ≡ y
  same true is_b true is_c p q = is_b ∙ sym is_c
  same false is_b false is_c p q = is_b ∙ sym is_c
  same true is_b false is_c p q = absurd (false≢true (sym is_c ∙ p is_b))
  same false is_b true is_c p q = absurd (false≢true (sym is_b ∙ q is_c))

-- neither of two can be before the other
pub not_both : (a b : Members) → IsFewer a b → IsFewer b a → ⊥
not_both a b (inl ab) (inl ba) = omega (arith, ab, ba)
not_both a b (inl ab) (inr ba) = (let e = ba.0 in omega (arith, ab, e))
not_both a b (inr ab) (inl ba) = (let e = ab.0 in omega (arith, ba, e))
not_both a b (inr ab) (inr ba) = itself (lists_joined a b a ab.1 ba.1) where
  itself : ListsFirst a a → ⊥
  itself l = false≢true (sym l.2 ∙ l.1)

-- of three moments, with as many restarts each, the list of the first comes before that of the third
restarts_joined : (logs : Logs) (a b c : Cut) → RestartsFirst logs a b → RestartsFirst logs b c → RestartsFirst logs a c
restarts_joined logs a b c ab bc = elim (cases_order ab.0 bc.0) [
  | inl same ↦ (ab.0, (let x = ab.1 in let y : restarts_at logs c ab.0 < restarts_at logs b ab.0 = subst (λ (m : ℕ). restarts_at logs c m < restarts_at logs b m) (sym same) bc.1 in omega (arith, x, y)), λ k below. ab.2 k below ∙ bc.2 k (omega (arith, below, same)))
  | inr (inl less) ↦ (ab.0, (let x = ab.1 in let y = bc.2 ab.0 less in omega (arith, x, y)), λ k below. ab.2 k below ∙ bc.2 k (omega (arith, below, less)))
  | inr (inr more) ↦ (bc.0, (let x = bc.1 in let y = ab.2 bc.0 more in omega (arith, x, y)), λ k below. ab.2 k (omega (arith, below, more)) ∙ bc.2 k below)
]

lists_of_three : (logs : Logs) (a b c : Cut) → RestartsFirst logs a b ⊎ ((k : ℕ) → restarts_at logs a k ≡ restarts_at logs b k) → RestartsFirst logs b c ⊎ ((k : ℕ) → restarts_at logs b k ≡ restarts_at logs c k)
    → RestartsFirst logs a c ⊎ ((k : ℕ) → restarts_at logs a k ≡ restarts_at logs c k)
lists_of_three logs a b c (inl ab) (inl bc) = inl (restarts_joined logs a b c ab bc)
lists_of_three logs a b c (inl ab) (inr bc) = inl (ab.0, (let x = ab.1 in let y = bc ab.0 in omega (arith, x, y)), λ k below. ab.2 k below ∙ bc k)
lists_of_three logs a b c (inr ab) (inl bc) = inl (bc.0, (let x = bc.1 in let y = ab bc.0 in omega (arith, x, y)), λ k below. ab k ∙ bc.2 k below)
lists_of_three logs a b c (inr ab) (inr bc) = inr (λ k. ab k ∙ bc k)

restarts_of_three : (logs : Logs) (a b c : Cut) → HasFewerRestarts logs a b → HasFewerRestarts logs b c → HasFewerRestarts logs a c
restarts_of_three logs a b c (inl ab) (inl bc) = inl (omega (arith, ab, bc))
restarts_of_three logs a b c (inl ab) (inr bc) = inl (let e = bc.0 in omega (arith, ab, e))
restarts_of_three logs a b c (inr ab) (inl bc) = inl (let e = ab.0 in omega (arith, bc, e))
restarts_of_three logs a b c (inr ab) (inr bc) = inr (ab.0 ∙ bc.0, lists_of_three logs a b c ab.1 bc.1)

-- of three candidates the first comes before the third
pub comes_joined : (logs : Logs) (a b c : Members) (p q s : ℕ) (x y z : Cut) → ComesFirst logs a p x b q y → ComesFirst logs b q y c s z → ComesFirst logs a p x c s z
comes_joined logs a b c p q s x y z (inl ab) (inl bc) = inl (fewer_joined a b c ab bc)
comes_joined logs a b c p q s x y z (inl ab) (inr bc) = inl (subst (λ (c : Members). IsFewer a c) bc.0 ab)
comes_joined logs a b c p q s x y z (inr ab) (inl bc) = inl (subst (λ (a : Members). IsFewer a c) (sym ab.0) bc)
comes_joined logs a b c p q s x y z (inr ab) (inr bc) = inr (ab.0 ∙ bc.0, by_orphans ab.1 bc.1) where
  by_orphans : (p < q) ⊎ ((p ≡ q) × HasFewerRestarts logs x y) → (q < s) ⊎ ((q ≡ s) × HasFewerRestarts logs y z) → (p < s) ⊎ ((p ≡ s) × HasFewerRestarts logs x z)
  by_orphans (inl pq) (inl qs) = inl (omega (arith, pq, qs))
  by_orphans (inl pq) (inr qs) = inl (let e = qs.0 in omega (arith, pq, e))
  by_orphans (inr pq) (inl qs) = inl (let e = pq.0 in omega (arith, qs, e))
  by_orphans (inr pq) (inr qs) = inr (pq.0 ∙ qs.0, restarts_of_three logs x y z pq.1 qs.1)

-- as many restarts of each member come at moments with the same
pub same_counts : (logs : Logs) (a b : Cut) → SameRestarts logs a b → (q : ℕ) → restarts_at logs a q ≡ restarts_at logs b q
same_counts logs a b same q = elim (cases_lt (a q) (b q)) [
  | inl less ↦ count_same (logs q) (a q) (b q) (omega (arith, less)) (λ k r after before here. (let x = ((same (at q k)).1 (r, here, before)).2 in omega (arith, x, after)))
  | inr more ↦ sym (count_same (logs q) (b q) (a q) (omega (arith, more)) (λ k r after before here. (let x = ((same (at q k)).0 (r, here, before)).2 in omega (arith, x, after))))
]

-- where no log is, nobody restarts
no_restarts : (log : List Entry) (a : ℕ) → length log ≡ 0 → restarts (take a log) ≡ 0
no_restarts [] zero none = refl
no_restarts [] (suc a) none = refl
no_restarts (e ∷ log) a none = absurd (omega (arith, none))

-- of one view more the moments are those of the others, and its own
pub one_view_more : (logs : Logs) (views : List View) (k : ℕ) (v : View) → slice_get views k ≡ Some v → (q : ℕ) (cut : Cut) → IsOfViews logs (take (k + 1) views) q cut
    → IsOfViews logs (take k views) q cut ⊎ IsOfLesser logs (cut_of v.base) 16 q cut
one_view_more logs views k v here q cut is =
    let x = is.1 in
    let more : take (k + 1) views ≡ take k views ++ v ∷ [] = (let s : k + 1 ≡ suc k = omega arith in rw (s, take-more views k v here) refl) in
    elim (At-push (take k views) v x.0 x.1 (subst (λ (vs : List View). slice_get vs x.0 ≡ Some x.1) more x.2)) [
      | inl old ↦ inl (is.0, (x.0, x.1, old, x.3))
      | inr new ↦ inr (is.0, subst (λ (w : View). SameRestarts logs (cut_of w.base) cut) (sym new.1) x.3)
    ]

-- ---- one receipt

module _ (log : RunParts) (rules : AreEntries log.members log.entries) (struck : AllBelow log.strike log.members) where
  abbrev run : Run
  run = run_of log

  abbrev entries : List Entry
  entries = log.entries

  module _ (i : Position) (d : Determinant) (receipt : IsReceiptAt run.logs d i) where
    -- one determinant names it
    pub one_name : (e : Determinant) → IsReceiptAt run.logs e i → e ≡ d
    one_name e other = (let same : Some other.0 ≡ Some receipt.0 = sym other.1 ∙ receipt.1 in let is : other.0 ≡ receipt.0 = cc in let names : Some e ≡ Some d = sym other.2 ∙ ap receipt_in is ∙ receipt.2 in cc)

    -- ---- at one cut

    -- what makes it unsafe has the least members, and leaves an orphan of them
    pub unsafe_has : (cut : Cut) → IsUnsafeAt run cut i → ((strike : Members) → IsLeastStrike run cut d strike → ((q : ℕ) × IsLeftOrphanAt run cut strike i q) → ⊥) → ⊥
    unsafe_has cut u no' =
        let members = u.0 in
        let may = u.1 in
        let name = one_name u.2.1.0 u.2.1.1 in
        let lost = subst (λ (e : Determinant). LosesAt run cut members e) name u.2.1.2 in
        some_struck_or_hold run entries refl rules struck cut d (λ s are.
        let within = λ (r : ℕ) (h : set.contains s r ≡ true). lost_contains run entries refl rules struck cut members may d lost r ((are r).0 h) in
        let fewer = len-within (set.len s) s members refl within in
        no' s (record { unstored = lost.0; least = are; few = (let n = may.few in omega (arith, fewer, n)) }) (u.3.0, (out s u.3.0 (within u.3.0) u.3.1.0, u.3.1.1))) where
          out : (strike : Members) (q : ℕ) → (set.contains strike q ≡ true → set.contains u.0 q ≡ true) → set.contains u.0 q ≡ false → set.contains strike q ≡ false
          out strike q within left = at_test (set.contains strike q) refl where
            at_test : (b : Bool) → set.contains strike q ≡ b → set.contains strike q ≡ false
            at_test true has = absurd (false≢true (sym left ∙ within has))
            at_test false no'' = no''

    -- the least members may be lost, lose it, and are within all that may be lost and do
    pub least_loss : (cut : Cut) (strike : Members) → IsLeastStrike run cut d strike → IsLeastLoss run cut d strike
    least_loss cut strike least = record {
      may = may_be_lost run entries refl rules struck cut d strike least.least least.few;
      loses = loses run entries refl rules struck cut d strike least.least least.unstored;
      least = λ members may lost r has. lost_contains run entries refl rules struck cut members may d lost r ((least.least r).0 has);
    }

    pub safe_at : (cut : Cut) → ((strike : Members) → ¬ (IsLeastStrike run cut d strike)) → ¬ (IsUnsafeAt run cut i)
    safe_at cut none u = unsafe_has cut u (λ strike least left. none strike least)

    pub nobody_left : (cut : Cut) (strike orphans : Members) → IsLeastStrike run cut d strike → ((q : ℕ) → (set.contains orphans q ≡ true) ↔ IsLeftOrphanAt run cut strike i q) → set.len orphans ≡ 0
        → ¬ (IsUnsafeAt run cut i)
    nobody_left cut strike orphans is are none u = unsafe_has cut u (λ other least left.
        let same : other ≡ strike = one_set run cut d other strike least.least is.least in
        let here = (are left.0).1 (subst (λ (s : Members). IsLeftOrphanAt run cut s i left.0) same left.1) in
        let one = len-remove_one orphans left.0 here in
        omega (arith, one, none))

    -- ---- candidates

    -- a candidate with the same orphan and restarts is of this moment
    same_cut : (q : ℕ) (base cut other : Cut) (strike : Members) → IsLeastIn run.logs i q base cut → SameRestarts run.logs base other → IsCandidate run i d q other strike → other ≡ cut
    same_cut q base cut other strike least same candidate =
        one_least run.logs i q other cut candidate.moment least.1 (λ r. (λ h. (least.0 r).0 ((same r).1 h), λ h. (same r).0 ((least.0 r).1 h)))

    pub none_if_none : (q : ℕ) (base : Cut) → NoneDepends run.logs i q base → IsFirstAmong run i d (IsOfMember run.logs base q) None
    none_if_none q base none p cut members is candidate =
        none cut candidate.moment.moment is.1 (subst (λ (p : ℕ). DependsAt run.logs cut i p) is.0 candidate.moment.depends)

    own : (q : ℕ) (p : ℕ) (cut : Cut) (members : Members) → p ≡ q → IsCandidate run i d p cut members → IsCandidate run i d q cut members
    own q p cut members same candidate = subst (λ (p : ℕ). IsCandidate run i d p cut members) same candidate

    module _ (q : ℕ) (base cut : Cut) (least : IsLeastIn run.logs i q base cut) where
      pub none_if_undone : ¬ (Stands run.logs cut i) → IsFirstAmong run i d (IsOfMember run.logs base q) None
      none_if_undone undone p other members is candidate =
          let mine = own q p other members is.0 candidate in
          undone (subst (λ (c : Cut). Stands run.logs c i) (same_cut q base cut other members least is.1 mine) mine.stands)

      pub none_if_many : ((strike : Members) → ¬ (IsLeastStrike run cut d strike)) → IsFirstAmong run i d (IsOfMember run.logs base q) None
      none_if_many none p other members is candidate =
          let mine = own q p other members is.0 candidate in
          none members (subst (λ (c : Cut). IsLeastStrike run c d members) (same_cut q base cut other members least is.1 mine) mine.least)

      -- of the least members it is
      same_strike : (strike : Members) → IsLeastStrike run cut d strike → (p : ℕ) (other : Cut) (members : Members) → IsOfMember run.logs base q p other → IsCandidate run i d p other members → strike ≡ members
      same_strike strike is_least p other members is candidate =
          let mine = own q p other members is.0 candidate in
          let there = subst (λ (c : Cut). IsLeastStrike run c d members) (same_cut q base cut other members least is.1 mine) mine.least in
          one_set run cut d strike members is_least.least there.least

      pub none_if_struck : (strike : Members) → IsLeastStrike run cut d strike → set.contains strike q ≡ true → IsFirstAmong run i d (IsOfMember run.logs base q) None
      none_if_struck strike is_least has p other members is candidate =
          let mine = own q p other members is.0 candidate in
          false≢true (sym mine.left ∙ ap (λ s. set.contains s q) (sym (same_strike strike is_least p other members is candidate)) ∙ has)

      pub one_if_left : (c : Candidate) → c.orphan ≡ q → cut_of c.moment ≡ cut → AreRestartsAt run.logs base c.restarts → Stands run.logs cut i → IsLeastStrike run cut d c.strike → set.contains c.strike q ≡ false
          → IsFirstAmong run i d (IsOfMember run.logs base q) (Some c)
      one_if_left c orphan moment restarts stands is_least left = (
        record {
          is = subst (λ (x : Cut). IsCandidate run i d c.orphan x c.strike) (sym moment) (subst (λ (x : ℕ). IsCandidate run i d x cut c.strike) (sym orphan) (record { moment = least.1; stands = stands; least = is_least; left = left }));
          restarts = subst (λ (x : Cut). AreRestartsAt run.logs x c.restarts) (sym moment) (record {
            each = λ k below. restarts.each k below ∙ same_counts run.logs base cut least.0 k;
            total = restarts.total ∙ sum_same run.logs base cut 16 (λ k below. same_counts run.logs base cut least.0 k);
          });
        },
        λ p other members is candidate. inr (
          same_strike c.strike is_least p other members is candidate,
          inr (
            orphan ∙ sym is.0,
            subst (λ (x : Cut). HasFewerRestarts run.logs x other) (sym moment) (as_many other (λ r. (λ h. (is.1 r).0 ((least.0 r).1 h), λ h. (least.0 r).0 ((is.1 r).1 h)))),
          ),
        ),
      ) where
        as_many : (other : Cut) → SameRestarts run.logs cut other → HasFewerRestarts run.logs cut other
        as_many other same = inr (sum_same run.logs cut other 16 (λ q below. same_counts run.logs cut other same q), inr (same_counts run.logs cut other same))

    -- ---- of two candidates one

    alike_all : (a b : Cut) → ((k : ℕ) → k < 16 → restarts_at run.logs a k ≡ restarts_at run.logs b k) → (k : ℕ) → restarts_at run.logs a k ≡ restarts_at run.logs b k
    alike_all a b same k = elim (cases_lt k 16) [
      | inl below ↦ same k below
      | inr past ↦ (let none = none_beyond run entries refl rules struck k past in no_restarts (run.logs k) (a k) none ∙ sym (no_restarts (run.logs k) (b k) none))
    ]

    fewer_by_counts : (x y : Cut) (a b : RestartCounts) → AreRestartsAt run.logs x a → AreRestartsAt run.logs y b → HasFewer a b → HasFewerRestarts run.logs x y
    fewer_by_counts x y a b of_a of_b (inl less) = inl (let m = of_a.total in let n = of_b.total in omega (arith, less, m, n))
    fewer_by_counts x y a b of_a of_b (inr (same, inl first)) = inr (
      sym of_a.total ∙ same ∙ of_b.total,
      inl (
        first.0,
        (let m = of_a.each first.0 first.1 in let n = of_b.each first.0 first.1 in let less = first.2 in omega (arith, less, m, n)),
        λ k below. (let under : k < 16 = (let w = first.1 in omega (arith, below, w)) in sym (of_a.each k under) ∙ first.3 k below ∙ of_b.each k under),
      ),
    )
    fewer_by_counts x y a b of_a of_b (inr (same, inr alike)) = inr (
      sym of_a.total ∙ same ∙ of_b.total,
      inr (alike_all x y (λ k below. sym (of_a.each k below) ∙ alike k below ∙ of_b.each k below)),
    )

    before_comes : (a b : Candidate) → IsCandidateOf run i d a → IsCandidateOf run i d b → IsBefore a b → ComesFirst run.logs a.strike a.orphan (cut_of a.moment) b.strike b.orphan (cut_of b.moment)
    before_comes a b of_a of_b (inl fewer) = inl fewer
    before_comes a b of_a of_b (inr (same, inl less)) = inr (same, inl less)
    before_comes a b of_a of_b (inr (same, inr (orphan, fewer))) = inr (same, inr (orphan, fewer_by_counts (cut_of a.moment) (cut_of b.moment) a.restarts b.restarts of_a.restarts of_b.restarts fewer))

    -- the one of two that comes first is the first of all among which either was
    module _ (P Q R : ℕ → Cut → Type 0) (either : (q : ℕ) (cut : Cut) → R q cut → P q cut ⊎ Q q cut) where
      pub first_of_two : (a b r : Option Candidate) → IsFirstAmong run i d P a → IsFirstAmong run i d Q b → IsFirstOf a b r → IsFirstAmong run i d R r
      first_of_two None None r of_a of_b is = subst (IsFirstAmong run i d R) (sym is) (λ q cut members of_r candidate. elim (either q cut of_r) [ inl p ↦ of_a q cut members p candidate | inr x ↦ of_b q cut members x candidate ])
      first_of_two None (Some b) r of_a of_b is = subst (IsFirstAmong run i d R) (sym is) (of_b.0, λ q cut members of_r candidate. elim (either q cut of_r) [ inl p ↦ absurd (of_a q cut members p candidate) | inr x ↦ of_b.1 q cut members x candidate ])
      first_of_two (Some a) None r of_a of_b is = subst (IsFirstAmong run i d R) (sym is) (of_a.0, λ q cut members of_r candidate. elim (either q cut of_r) [ inl p ↦ of_a.1 q cut members p candidate | inr x ↦ absurd (of_b q cut members x candidate) ])
      first_of_two (Some a) (Some b) r of_a of_b (inl is) = subst (IsFirstAmong run i d R) (sym is.0) (
        of_a.0,
        λ q cut members of_r candidate. elim (either q cut of_r) [
          | inl p ↦ of_a.1 q cut members p candidate
          | inr x ↦ comes_joined run.logs a.strike b.strike members a.orphan b.orphan q (cut_of a.moment) (cut_of b.moment) cut (before_comes a b of_a.0 of_b.0 is.1) (of_b.1 q cut members x candidate)
        ],
      )
      first_of_two (Some a) (Some b) r of_a of_b (inr is) = subst (IsFirstAmong run i d R) (sym is.0) (
        of_b.0,
        λ q cut members of_r candidate. elim (either q cut of_r) [
          | inl p ↦ comes_joined run.logs b.strike a.strike members b.orphan a.orphan q (cut_of b.moment) (cut_of a.moment) cut (before_comes b a of_b.0 of_a.0 is.1) (of_a.1 q cut members p candidate)
          | inr x ↦ of_b.1 q cut members x candidate
        ],
      )

    -- the first of all candidates is the first of any
    pub first_wider : (P Q : ℕ → Cut → Type 0) → ((q : ℕ) (cut : Cut) (members : Members) → Q q cut → IsCandidate run i d q cut members → P q cut) → (o : Option Candidate) → IsFirstAmong run i d P o → IsFirstAmong run i d Q o
    first_wider P Q wider None none = λ q cut members is candidate. none q cut members (wider q cut members is candidate) candidate
    first_wider P Q wider (Some c) first = (first.0, λ q cut members is candidate. first.1 q cut members (wider q cut members is candidate) candidate)

    -- a candidate's orphan is of the group
    pub orphan_below : (q : ℕ) (cut : Cut) (members : Members) → IsCandidate run i d q cut members → q < 16
    orphan_below q cut members candidate =
        let depends = candidate.moment.depends in
        let there = last_there depends.1 in
        let below = of_group run entries refl rules struck q depends.0 there.0 there.1 in
        (let size = rules.size.1 in omega (arith, below, size))

    -- where there is no candidate it is safe at each moment
    pub safe_moments : IsFirstAmong run i d IsAny None → (cut : Cut) → IsMoment run.logs cut → ¬ (IsUnsafeAt run cut i)
    safe_moments none cut moment u =
        let members = u.0 in
        let may = u.1 in
        let q = u.3.0 in
        let name = one_name u.2.1.0 u.2.1.1 in
        let lost = subst (λ (e : Determinant). LosesAt run cut members e) name u.2.1.2 in
        some_least_dependent run entries refl rules struck cut moment i q u.3.1.1 (λ least is_least same before.
        let stands = stands_earlier run.logs least cut before i (come_there run entries refl rules struck least is_least.moment i q is_least.depends) u.2.0 in
        some_struck_or_hold run entries refl rules struck least d (λ holders are.
        let within = λ (r : ℕ) (h : set.contains holders r ≡ true). lost_contains run entries refl rules struck cut members may d lost r
        (elim ((are r).0 h) [ inl x ↦ inl x | inr x ↦ inr (holds_later run.logs least cut before (λ p. (same p).0) d r x) ]) in
        let fewer = len-within (set.len holders) holders members refl within in
        none q least holders tt (record {
          moment = is_least;
          stands = stands;
          least = record { unstored = λ stored. lost.0 (stored_later run.logs least cut before d stored); least = are; few = (let n = may.few in omega (arith, fewer, n)) };
          left = out holders q (within q) u.3.1.0;
        }))) where
          out : (strike : Members) (q : ℕ) → (set.contains strike q ≡ true → set.contains u.0 q ≡ true) → set.contains u.0 q ≡ false → set.contains strike q ≡ false
          out strike q within left = at_test (set.contains strike q) refl where
            at_test : (b : Bool) → set.contains strike q ≡ b → set.contains strike q ≡ false
            at_test true has = absurd (false≢true (sym left ∙ within has))
            at_test false no'' = no''

    -- ---- what is said

    -- what is said at a cut where the run is judged
    said_at : (said : UnsafeReceipt) (cut : Cut) (p : ℕ) → StandsAt entries p i → IsSaidWith run cut i p d said → IsSaidAt log i said log.judged said.at → (said.place ≡ p) × IsSaidOf log i said
    said_at said cut p stands with' moment = (
      with'.place,
      record {
        place = subst (λ (x : ℕ). StandsAt entries x i) (sym with'.place) stands;
        receipt = subst (λ (e : Determinant). IsReceiptAt run.logs e i) (sym with'.determinant) receipt;
        moment = moment;
        stands = subst (λ (x : Cut). Stands run.logs x i) (sym with'.moment) with'.stands;
        strike = least;
        loss = subst (λ (e : Determinant). IsLeastLoss run (cut_of said.moment) e said.strike) (sym with'.determinant) (least_loss (cut_of said.moment) said.strike least');
        orphans = subst (λ (x : Cut). (q : ℕ) → (set.contains said.orphans q ≡ true) ↔ IsLeftOrphanAt run x said.strike i q) (sym with'.moment) with'.orphans;
        some = with'.some;
      },
    ) where
      least' : IsLeastStrike run (cut_of said.moment) d said.strike
      least' = subst (λ (x : Cut). IsLeastStrike run x d said.strike) (sym with'.moment) with'.strike

      least : IsLeastStrike run (cut_of said.moment) said.determinant said.strike
      least = subst (λ (e : Determinant). IsLeastStrike run (cut_of said.moment) e said.strike) (sym with'.determinant) least'

    pub said_at_end : (o : Option UnsafeReceipt) (p : ℕ) → StandsAt entries p i → log.judged ≡ AtItsEnd → MatchOption o (¬ (IsUnsafeAtEnd run i)) (IsSaidAtEnd run i p d)
        → MatchOption o (¬ (IsUnsafe run i)) (λ said. (said.place ≡ p) × IsSaidOf log i said)
    said_at_end None p stands end safe = λ u. (let here = subst (λ (j : Judged). IsJudgedAt j run.logs u.0) end u.1 in safe (subst (λ (cut : Cut). IsUnsafeAt run cut i) here u.2))
    said_at_end (Some said) p stands end is =
        let P : Judged → Option ℕ → Type 0 = λ j o. IsSaidAt log i said j o in
        said_at said (last_cut run.logs) p stands is.2 (subst (λ (j : Judged). P j said.at) (sym end) (subst (P AtItsEnd) (sym is.0) (is.2.moment, is.1)))

    pub said_at_moment : (o : Option UnsafeReceipt) (p : ℕ) → StandsAt entries p i → log.judged ≡ AtEachMoment → IsSaidFirst log i p d o
        → MatchOption o (¬ (IsUnsafe run i)) (λ said. (said.place ≡ p) × IsSaidOf log i said)
    said_at_moment None p stands each none = λ u. safe_moments none u.0 (subst (λ (j : Judged). IsJudgedAt j run.logs u.0) each u.1) u.2
    said_at_moment (Some said) p stands each (f, first, is) =
        let P : Judged → Option ℕ → Type 0 = λ j o. IsSaidAt log i said j o in
        let chosen : IsFirstCandidate run i d f.orphan (cut_of f.moment) f.strike = record {
          candidate = first.0.is;
          first = λ q cut members candidate. first.1 q cut members tt candidate;
        } in
        let with_cut = subst (λ (x : Cut). IsFirstCandidate run i d f.orphan x f.strike) (sym is.says.moment) chosen in
        let with_strike = subst (λ (s : Members). IsFirstCandidate run i d f.orphan (cut_of said.moment) s) (sym is.strike) with_cut in
        let with_name = subst (λ (e : Determinant). IsFirstCandidate run i e f.orphan (cut_of said.moment) said.strike) (sym is.says.determinant) with_strike in
        let named = subst (λ (x : Cut). IsNamed run i f.orphan x is.named.0) (sym is.says.moment) is.named.2 in
        said_at said (cut_of f.moment) p stands is.says (subst (λ (j : Judged). P j said.at) (sym each) (subst (P AtEachMoment) (sym is.listed) (f.orphan, with_name, is.shown, (is.named.0, is.named.1, named))))

-- ---- all receipts

-- what is no receipt is none
pub no_receipt_place : (run : RunParts) (p : ℕ) (e : Entry) → slice_get run.entries p ≡ Some e → receipt_in e ≡ None → (i : Position) → ¬ (IsReceiptPlace run p i)
no_receipt_place run p e here none i (stands, (d, receipt)) =
    let there = stands_at run.entries p i e stands here in
    let same : receipt.0 ≡ e = (let some : Some receipt.0 ≡ Some e = sym receipt.1 ∙ there in cc) in
    (let no' : Some d ≡ None = sym receipt.2 ∙ ap receipt_in same ∙ none in cc)

said_is_unsafe : (run : RunParts) (i : Position) (said : UnsafeReceipt) → IsSaidOf run i said → IsUnsafe (run_of run) i
said_is_unsafe run i said is =
    (cut_of said.moment, judged run.judged said.at is.moment, (said.strike, is.loss.may, (is.stands, (said.determinant, is.receipt, is.loss.loses)), (is.some.0, (is.orphans is.some.0).0 is.some.1))) where
      judged : (j : Judged) (o : Option ℕ) → IsSaidAt run i said j o → IsJudgedAt j (log_of run.entries) (cut_of said.moment)
      judged AtItsEnd None end = end.0
      judged AtEachMoment (Some place) first = first.1.candidate.moment.moment
      judged AtItsEnd (Some place) no' = absurd no'
      judged AtEachMoment None no' = absurd no'

-- nothing is said exactly where no receipt from the place on is unsafe
says_none : (log : RunParts) (p : ℕ) (es : List Entry) (said : List UnsafeReceipt) → SaysUnsafe log p es said
    → (said ≡ []) ↔ ((k : ℕ) (i : Position) → k < length es → IsReceiptPlace log (p + k) i → ¬ (IsUnsafe (run_of log) i))
says_none log p [] said says = (λ none k i below at. absurd (omega (arith, below)), λ none. says)
says_none log p (e ∷ es) said says = elim says [
  | inl safe ↦
      let rest = says_none log (p + 1) es said safe.1 in (
        λ none. elim [
          | zero ↦ λ i below at. safe.0 i (let same : p + 0 ≡ p = omega arith in subst (λ (x : ℕ). IsReceiptPlace log x i) same at)
          | suc k ↦ λ i below at. rest.0 none k i (omega (arith, below)) (let same : p + suc k ≡ (p + 1) + k = omega arith in subst (λ (x : ℕ). IsReceiptPlace log x i) same at)
        ],
        λ none. rest.1 (λ k i below at. none (suc k) i (omega (arith, below)) (let same : (p + 1) + k ≡ p + suc k = omega arith in subst (λ (x : ℕ). IsReceiptPlace log x i) same at)),
      )
  | inr un ↦ (
    λ none. absurd (let no : [] ≡ un.1 ∷ un.2 = sym none ∙ un.3 in cc),
    λ none. absurd (none zero un.0 (omega arith) (let same : p ≡ p + 0 = omega arith in
        subst (λ (x : ℕ). IsReceiptPlace log x un.0) same (subst (λ (x : ℕ). StandsAt log.entries x un.0) un.4 un.5.place, (un.1.determinant, un.5.receipt)))
        (said_is_unsafe log un.0 un.1 un.5)),
  )
]

-- an unsafe receipt is one of the entries
unsafe_there : (log : RunParts) (i : Position) → IsUnsafe (run_of log) i → (p : ℕ) × (p < length log.entries) × IsReceiptPlace log p i
unsafe_there log i u =
    let receipt = u.2.2.1 in
    let w = stands_somewhere log.entries i receipt.1.0 receipt.1.1 in
    (w.0, slice_get_within log.entries w.0 receipt.1.0 w.1, (w.2, (receipt.0, receipt.1)))

-- where no receipt is unsafe the run is safe
pub none_unsafe : (log : RunParts) → ((p : ℕ) (i : Position) → p < length log.entries → IsReceiptPlace log p i → ¬ (IsUnsafe (run_of log) i)) → IsSafe (run_of log)
none_unsafe log none cut moment members may q orphan =
    let i = orphan.1.0 in
    let u : IsUnsafe (run_of log) i = (cut, moment, (members, may, orphan.1.1, (q, (orphan.0, orphan.1.2)))) in
    let there = unsafe_there log i u in
    none there.0 i there.1 there.2 u

pub says_safe : (log : RunParts) (said : List UnsafeReceipt) → SaysUnsafe log 0 log.entries said → (said ≡ []) ↔ IsSafe (run_of log)
says_safe log said says = (
  λ none. none_unsafe log (λ p i below at. (says_none log 0 log.entries said says).0 none p i below (let same : p ≡ 0 + p = omega arith in subst (λ (x : ℕ). IsReceiptPlace log x i) same at)),
  λ safe. (says_none log 0 log.entries said says).1 (λ k i below at u. safe u.0 u.1 u.2.0 u.2.1 u.2.3.0 (u.2.3.1.0, (i, u.2.2, u.2.3.1.1))),
)
