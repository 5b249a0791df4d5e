-- Where the holds and stores of each determinant are.
use Rattle.fbl_runs.proofs.Common.{ℕ, zero, suc, ◌≢◌, ◌⊎◌, [], ◌∷◌, Bool, true, false, cond, ◌≡◌, ◌≤◌, ◌+◌, ◌∙◌, inl, inr, arith, cases_eq, ap, refl, subst, sym, List, Option, Some, None, length, slice_get, slice_get_within, Determinant, Entry}
use Rattle.std.proofs.Common.{length-set, set}
use Rattle.std.specs.HashMap as hash_map
use Rattle.fbl_trace.specs.Events.{same_determinant}
use Rattle.fbl_trace.proofs.RulesLaws.{Decides-same_determinant}
use Rattle.fbl_runs.specs.Entries.{recorded_in}
use Rattle.fbl_runs.specs.declared.records.RecordPlaces.{RecordPlaces}
use Rattle.fbl_runs.specs.Records.{AreRecordPlaces, IsFirstFrom, IsNextRecord, IsRecordAt}

pub set_get : {X : Type 0} (xs : List X) (i j : ℕ) (v x : X) → slice_get (set xs i v) j ≡ Some x → ((j ≡ i) × (v ≡ x)) ⊎ ((j ≢ i) × (slice_get xs j ≡ Some x))
set_get [] i j v x is = cc
set_get (y ∷ ys) zero zero v x is = inl (refl, (cc))
set_get (y ∷ ys) zero (suc j) v x is = inr (λ e. omega (arith, e), is)
set_get (y ∷ ys) (suc i) zero v x is = inr (λ e. omega (arith, e), is)
set_get (y ∷ ys) (suc i) (suc j) v x is = elim (set_get ys i j v x is) [
  | inl here ↦ inl (omega (arith, here.0), here.1)
  | inr other ↦ inr (λ e. other.0 (omega (arith, e)), other.1)
]

-- ---- the first place that has a determinant

-- where one place more is none, the first one stays
from_before : (P : ℕ → Type 0) (p : ℕ) (o : Option ℕ) → ¬ (P p) → IsFirstFrom P (p + 1) o → IsFirstFrom P p o
from_before P p None not none = λ place past at. elim (cases_eq place p) [ inl same ↦ not (subst P same at) | inr ne ↦ none place (omega (arith, past, ne)) at ]
from_before P p (Some next) not first = (
  (let f = first.0 in omega (arith, f)),
  first.1,
  λ place past below at. elim (cases_eq place p) [ inl same ↦ not (subst P same at) | inr ne ↦ first.2 place (omega (arith, past, ne)) below at ],
)

-- of entries that have determinants in some way
module _ (of : Entry → Option Determinant) (entries : List Entry) where
  -- the entry at the place has the determinant
  abbrev pub HasAt : Determinant → ℕ → Type 0
  HasAt d place = (e : Entry) × (slice_get entries place ≡ Some e) × (of e ≡ Some d)

  -- behind the last entry there are none
  pub none_past : (d : Determinant) → IsFirstFrom (HasAt d) (length entries) None
  none_past d place past at = (let within = slice_get_within entries place at.0 at.1 in omega (arith, past, within))

  module _ (p : ℕ) (e : Entry) (here : slice_get entries p ≡ Some e) where
    pub has_here : (d : Determinant) → HasAt d p → of e ≡ Some d
    has_here d at = (let same : at.0 ≡ e = (let some : Some at.0 ≡ Some e = sym at.1 ∙ here in cc) in ap of (sym same) ∙ at.2)

    -- one entry more that has none
    pub first_still : of e ≡ None → (d : Determinant) (o : Option ℕ) → IsFirstFrom (HasAt d) (p + 1) o → IsFirstFrom (HasAt d) p o
    first_still none d o first = from_before (HasAt d) p o (λ at. (let some : None ≡ Some d = sym none ∙ has_here d at in cc)) first

    -- and one that has this one
    pub first_more : (d : Determinant) → of e ≡ Some d → (x : Determinant) (o : Option ℕ) → IsFirstFrom (HasAt x) (p + 1) o
        → IsFirstFrom (HasAt x) p (cond (same_determinant d x) (Some p) o)
    first_more d is x o first = by_test (same_determinant d x) refl where
      by_test : (b : Bool) → same_determinant d x ≡ b → IsFirstFrom (HasAt x) p (cond b (Some p) o)
      by_test true same =
          let equal : d ≡ x = (Decides-same_determinant d x).0 same in
          (omega arith, (e, here, is ∙ ap Some equal), λ place past below at. absurd (omega (arith, past, below)))
      by_test false other = from_before (HasAt x) p o (λ at. (
          let equal : d ≡ x = (let some : Some d ≡ Some x = sym is ∙ has_here x at in cc) in
          let same = (Decides-same_determinant d x).1 equal in
          (let no' : true ≡ false = sym same ∙ other in cc))) first

-- ---- holds and stores

-- behind the last entry there are none
pub none_behind : (entries : List Entry) (records : RecordPlaces) → length records.nexts.items ≡ length entries → ((d : Determinant) → hash_map.get same_determinant records.firsts d ≡ None)
    → AreRecordPlaces entries (length entries) records
none_behind entries records room none = record {
  room = room;
  first = λ d. subst (IsNextRecord entries d (length entries)) (sym (none d)) (none_past recorded_in entries d);
  next = λ place d next past at there. absurd (let within = slice_get_within entries place at.0 at.1 in omega (arith, past, within));
}

module _ (entries : List Entry) (p : ℕ) (e : Entry) (here : slice_get entries p ≡ Some e) (old : RecordPlaces) (are : AreRecordPlaces entries (p + 1) old) where
  one : (d : Determinant) → IsRecordAt entries d p → recorded_in e ≡ Some d
  one d at = has_here recorded_in entries p e here d at

  -- an entry that is no hold or store
  pub no_record : recorded_in e ≡ None → AreRecordPlaces entries p old
  no_record none = record {
    room = are.room;
    first = λ d. first_still recorded_in entries p e here none d (hash_map.get same_determinant old.firsts d) (are.first d);
    next = λ place d next past at there. elim (cases_eq place p) [
      | inl same ↦ absurd (let some : None ≡ Some d = sym none ∙ one d (subst (IsRecordAt entries d) same at) in cc)
      | inr ne ↦ are.next place d next (omega (arith, past, ne)) at there
    ];
  }

  -- a hold or a store of the determinant
  pub one_record : (d : Determinant) → recorded_in e ≡ Some d → (new : RecordPlaces)
      → ((x : Determinant) → hash_map.get same_determinant new.firsts x ≡ cond (same_determinant d x) (Some p) (hash_map.get same_determinant old.firsts x))
      → new.nexts.items ≡ set old.nexts.items p (hash_map.get same_determinant old.firsts d) → AreRecordPlaces entries p new
  one_record d is new firsts nexts = record {
    room = ap length nexts ∙ length-set old.nexts.items p (hash_map.get same_determinant old.firsts d) ∙ are.room;
    first = λ x. subst (IsNextRecord entries x p) (sym (firsts x)) (first_more recorded_in entries p e here d is x (hash_map.get same_determinant old.firsts x) (are.first x));
    next = next_of;
  } where
    next_of : (place : ℕ) (x : Determinant) (next : Option ℕ) → p ≤ place → IsRecordAt entries x place → slice_get new.nexts.items place ≡ Some next → IsNextRecord entries x (place + 1) next
    next_of place x next past at there = elim (set_get old.nexts.items p place (hash_map.get same_determinant old.firsts d) next (rw nexts at there)) [
      | inl (same, is_next) ↦
          let equal : d ≡ x = (let some : Some d ≡ Some x = sym is ∙ one x (subst (IsRecordAt entries x) same at) in cc) in
          let first = subst (λ (x : Determinant). IsNextRecord entries x (p + 1) (hash_map.get same_determinant old.firsts d)) equal (are.first d) in
          subst (λ (o : Option ℕ). IsNextRecord entries x (place + 1) o) is_next (subst (λ (k : ℕ). IsNextRecord entries x (k + 1) (hash_map.get same_determinant old.firsts d)) (sym same) first)
      | inr (ne, before) ↦ are.next place x next (omega (arith, past, ne)) at before
    ]
