-- What is left of a lawful trace is lawful, with its notes.
use Rattle.fbl_law.proofs.Common.{◌≡◌, ℕ, zero, suc, ◌<◌, ◌≤◌, nat_lt, inl, inr, ◌⊎◌, Bool, true, false, cond, List, [], ◌∷◌, ◌++◌, length, take, map, Option, Some, slice_get, refl, sym, ap, ◌∙◌}
use Rattle.fbl_law.proofs.Common.{arith, count_by, length-take, filter, filter_map, fold, nat_tests, filter-append, sum_by-cons, length-filter_map, length-left, Start, Event, Mark, mark_of, member_of}
use Rattle.fbl_law.proofs.Common.{send_of, Has, Leads, Precedes, itself, step, is_receipt_of, sent_on, taken_on, in_flight, MayFollow, WellFormed, At-front, At-below, WellFormed-keeps}
use Rattle.fbl_law.proofs.Common.{WellFormed-none, WellFormed-push, is_sent, in_flight-sent, last_taken, Next, note_of, Action, took, sent, action_of, actions_of, notes_of, responses, start_of}
use Rattle.fbl_law.proofs.Common.{starts_of, Lawful, At-filter, receipts-noted, eqb-self, append-nil, filter_map-agree, Earlier-front, cases_lt, drop, drop_all, drop_next, filter_map-append}
use Rattle.fbl_law.proofs.Common.{slice_get_within, subst, take_all, None, At-seam, take-append-drop, At}
use Rattle.fbl_trace.specs.declared.trace.Mark.TheVariants as mark
use Rattle.fbl_trace.specs.declared.trace.Event.TheVariants.{Send, Receipt}
use Rattle.std.specs.Prelude.{⊤}
use Rattle.fbl_trace.specs.Fold.{InTurns}
use Rattle.fbl_law.proofs.Common.{◌+◌, cases_Bool, zero-add}
use Rattle.fbl_law.proofs.Channels.{in_flight-beyond}
use Rattle.fbl_law.proofs.Lists.{filter-At, some-at}
use Rattle.fbl_law.proofs.ReplayedRecords.{noted-sent, sent-noted, mark-at}

-- where the elements with an image are kept exactly before a place, the images left are those of the elements before it
front-left : {X Y : Type 0} (g : X → Option Y) (keep : X → Bool) (stop : ℕ) (xs : List X)
    → ((i : ℕ) (x : X) (y : Y) → slice_get xs i ≡ Some x → g x ≡ Some y → keep x ≡ nat_lt i stop) → filter_map g (filter keep xs) ≡ filter_map g (take stop xs)
front-left g keep zero [] tells = refl
front-left g keep (suc stop) [] tells = refl
front-left {Y = Y} g keep zero (x ∷ xs) tells =
    grind (arith, nat_tests, λ (y : Y). tells 0 x y refl, front-left g keep zero xs (λ i y z here is. tells (suc i) y z here is ∙ grind (arith, nat_tests)))
front-left {Y = Y} g keep (suc stop) (x ∷ xs) tells =
    grind (arith, nat_tests, λ (y : Y). tells 0 x y refl, front-left g keep stop xs (λ i y z here is. tells (suc i) y z here is ∙ grind (arith, nat_tests)))

-- a part of the events of which each one is kept
pub map-kept : {Y : Type 0} (keep : Mark → Bool) (g : Mark → Option Y) (u : List Mark) → ((e : Mark) (y : Y) → Has u e → g e ≡ Some y → keep e ≡ true)
    → filter_map g (filter keep u) ≡ filter_map g u
map-kept keep g u all = search (arith, front-left g keep (length u) u, slice_get_within u, take_all (length u) u)

-- a count of events is how many a map gives
count-map : (p : Mark → Bool) (u : List Mark) → count_by p u ≡ length (filter_map (λ e. cond (p e) (Some e) None) u)
count-map p [] = refl
count-map p (x ∷ u) = grind (arith, sum_by-cons (λ y. cond (p y) 1 0) x u, count-map p u)

-- counts of a kind of event of which each is kept, or of which those before a place are kept
count-kept : (keep p : Mark → Bool) (u : List Mark) → ((e : Mark) → Has u e → p e ≡ true → keep e ≡ true) → count_by p (filter keep u) ≡ count_by p u
count-kept keep p u all = search (arith, count-map, map-kept)

pub count-front : (keep p : Mark → Bool) (stop : ℕ) (u : List Mark) → ((i : ℕ) (e : Mark) → At u i e → p e ≡ true → keep e ≡ nat_lt i stop)
    → count_by p (filter keep u) ≡ count_by p (take stop u)
count-front keep p stop u tells = search (arith, count-map, front-left)

module _ {N : Type 0} where
  -- the two ways to leave events out
  pub marks-filter : (keep : Mark → Bool) (t : List (Event N)) → map mark_of (filter (λ e. keep (mark_of e)) t) ≡ filter keep (map mark_of t)
  marks-filter keep [] = refl
  marks-filter keep (x ∷ t) = grind (arith, marks-filter keep t)

  -- the starts are no receipts
  no_receipt : (k : ℕ) (v : List (Event N)) → k ≤ length (filter_map start_of (take k v)) → (i p r q s : ℕ) → i < k → ¬ (slice_get v i ≡ Some (Receipt p r q s))
  no_receipt zero v whole i p r q s below here = omega arith
  no_receipt (suc k) [] whole i p r q s below here = cc
  no_receipt (suc k) (Receipt p' r' q' s' ∷ v) whole i p r q s below here = omega (arith, length-filter_map start_of (take k v), length-take k v)
  no_receipt (suc k) (Send q' s' p' x ∷ v) whole zero p r q s below here = cc
  no_receipt (suc k) (Send q' s' p' x ∷ v) whole (suc i) p r q s below here = no_receipt k v (omega arith) i p r q s (omega arith) here

  abbrev pub IsNote : Action N → Type 0
  IsNote (took note) = Unit {0}
  IsNote (sent s) = ⊥

-- what leads to a kept event is kept
abbrev pub KeepsCauses : (Mark → Bool) → List Mark → Type 0
KeepsCauses keep t = (a b : Mark) → keep b ≡ true → Leads t a b → keep a ≡ true

-- so what precedes an event of what is left is in what is left
pub Has-before : (keep : Mark → Bool) (t : List Mark) {a b : Mark} → KeepsCauses keep t → Precedes t a b → keep b ≡ true → Has (filter keep t) a
Has-before keep t {a} causes (itself h) kept = filter-At keep t h.0 a h.1 kept
Has-before keep t causes (step {b} {c} p l) kept = Has-before keep t causes p (causes b c kept l)

-- the first number that passes stays the first, where what gives it is kept
first-left : (keep : Mark → Bool) (g : Mark → Option ℕ) (p : ℕ → Bool) (u : List Mark) (s : ℕ) → ((e : Mark) → g e ≡ Some s → keep e ≡ true)
    → slice_get (filter p (filter_map g u)) 0 ≡ Some s → slice_get (filter p (filter_map g (filter keep u))) 0 ≡ Some s
first-left keep g p [] s kept first = first
first-left keep g p (e ∷ u) s kept first = grind (arith, kept e, first-left keep g p u s kept)

-- an event that may follow a trace may follow what is left of it, where what leads to it is left
module _ (n : ℕ) (keep : Mark → Bool) (u : List Mark) (obeys : WellFormed n u) (left : WellFormed n (filter keep u)) where
  first-kept : (q s p : ℕ) → slice_get (in_flight u q p) 0 ≡ Some s → keep (mark.Send q s p) ≡ true
      → filter_map (taken_on q p) (filter keep u) ≡ filter_map (taken_on q p) u → slice_get (in_flight (filter keep u) q p) 0 ≡ Some s
  first-kept q s p first kept same =
      let last : last_taken (filter keep u) q p ≡ last_taken u q p = ap (fold (λ last ssn. ssn) 0) same in
      rw (← in_flight-beyond n (filter keep u) q p left, last)
      (first-left keep (sent_on q p) (λ x. nat_lt (last_taken u q p) x) u s (λ e is. rw (is_sent q p s e is) kept) (rw (in_flight-beyond n u q p obeys) first))

  MayFollow-kept : (e : Mark) → MayFollow n u e → ((a : Mark) → Has u a → (member_of a ≡ member_of e) ⊎ (send_of e ≡ Some a) → keep a ≡ true) → MayFollow n (filter keep u) e
  MayFollow-kept (mark.Send from ssn to) may causes = search (arith, count-kept, nat_tests, length-left)
  MayFollow-kept (mark.Receipt to rsn from ssn) may causes =
      search (arith, count-kept keep (is_receipt_of to) u, length-left, first-kept from ssn to may.5, in_flight-sent u from ssn to 0 may.5, map-kept keep (taken_on from to) u)

-- what is left of a trace that obeys the rules obeys them, where what leads to a kept event is kept
pub WellFormed-kept : (n : ℕ) (keep : Mark → Bool) (t : List Mark) → WellFormed n t → KeepsCauses keep t → WellFormed n (filter keep t)
WellFormed-kept n keep t obeys = WellFormed-keeps n (λ u. KeepsCauses keep u → WellFormed n (filter keep u)) (λ causes. WellFormed-none n) more t obeys where
  more : (u : List Mark) (e : Mark) → WellFormed n u → MayFollow n u e → (KeepsCauses keep u → WellFormed n (filter keep u))
      → KeepsCauses keep (u ++ e ∷ []) → WellFormed n (filter keep (u ++ e ∷ []))
  more u e obeys_u may before causes = rw (filter-append keep u (e ∷ [])) (at (keep e) refl) where
    done : WellFormed n (filter keep u)
    done = before (λ a b kept leads. causes a b kept (Earlier-front u (e ∷ []) a b leads.0, leads.1))

    at : (b : Bool) → keep e ≡ b → WellFormed n (filter keep u ++ cond b (e ∷ []) [])
    at false is = rw append-nil done
    at true is = WellFormed-push n (filter keep u) e done
        (MayFollow-kept n keep u obeys_u done e may (λ a h why. causes a e is ((h.0, length u, At-below u h.0 a h.1, At-front u (e ∷ []) h.0 a h.1, At-seam u e []), why)))

-- a front of which each element is kept
take-kept : {X : Type 0} (keep : X → Bool) (k : ℕ) (xs : List X) → ((i : ℕ) (x : X) → i < k → slice_get xs i ≡ Some x → keep x ≡ true) → take k (filter keep xs) ≡ take k xs
take-kept keep zero xs all = refl
take-kept keep (suc k) [] all = refl
take-kept {X} keep (suc k) (x ∷ xs) all = rw (all 0 x (omega arith) refl) (ap (λ (ys : List X). x ∷ ys) (take-kept keep k xs (λ i y below. all (suc i) y (omega arith))))

-- and what comes behind it
drop-kept : {X : Type 0} (keep : X → Bool) (k : ℕ) (xs : List X) → ((i : ℕ) (x : X) → i < k → slice_get xs i ≡ Some x → keep x ≡ true) → drop k (filter keep xs) ≡ filter keep (drop k xs)
drop-kept keep zero xs all = refl
drop-kept keep (suc k) [] all = refl
drop-kept keep (suc k) (x ∷ xs) all = rw (all 0 x (omega arith) refl) (drop-kept keep k xs (λ i y below. all (suc i) y (omega arith)))

At-drop : {X : Type 0} (xs : List X) (k i : ℕ) (x : X) → slice_get (drop k xs) i ≡ Some x → slice_get xs (k + i) ≡ Some x
At-drop xs zero i x here = rw zero-add here
At-drop [] (suc k) i x here = absurd cc
At-drop (y ∷ xs) (suc k) i x here = (let e : suc k + i ≡ suc (k + i) = omega arith in rw e (At-drop xs k i x here))

-- turns of which each is left whole, or its first events, are turns
module _ {N : Type 0} (keep : Event N → Bool) where
  -- a send that is left comes after an event that is left
  abbrev IsLeftAfter : Option ℕ → Option ℕ → List (Event N) → Type 0
  IsLeftAfter last left [] = ⊤
  IsLeftAfter last left (Send q k to x ∷ t) = keep (Send q k to x) ≡ true → last ≡ Some q → left ≡ Some q
  IsLeftAfter last left (Receipt to r q k ∷ t) = ⊤

  abbrev KeepsFront : List (Event N) → Type 0
  KeepsFront t = (i q k to : ℕ) (x : N) (e : Event N) → slice_get t (suc i) ≡ Some (Send q k to x) → slice_get t i ≡ Some e → member_of (mark_of e) ≡ q → keep (Send q k to x) ≡ true → keep e ≡ true

  left_next : (e : Event N) (left : Option ℕ) (t : List (Event N)) → KeepsFront (e ∷ t) → keep e ≡ false → IsLeftAfter (Some (member_of (mark_of e))) left t
  left_next e left [] fronts gone = tt
  left_next e left (Send q k to x ∷ t) fronts gone = λ kept own. (let same : member_of (mark_of e) ≡ q = cc in let too = fronts 0 q k to x e refl refl same kept in absurd cc)
  left_next e left (Receipt to r q k ∷ t) fronts gone = tt

  same_next : (last : Option ℕ) (t : List (Event N)) → IsLeftAfter last last t
  same_next last [] = tt
  same_next last (Send q k to x ∷ t) = λ kept own. own
  same_next last (Receipt to r q k ∷ t) = tt

  turns-left : (last left : Option ℕ) (t : List (Event N)) → KeepsFront t → IsLeftAfter last left t → InTurns last t → InTurns left (filter keep t)
  turns-left last left [] fronts after turns = tt
  turns-left last left (Send q k to x ∷ t) fronts after turns =
      let later : KeepsFront t = λ i. fronts (suc i) in
      elim (cases_Bool (keep (Send q k to x))) [
        | inl is ↦ rw is (after is turns.0, turns-left (Some q) (Some q) t later (same_next (Some q) t) turns.1)
        | inr is ↦ rw is (turns-left (Some q) left t later (left_next (Send q k to x) left t fronts is) turns.1)
      ]
  turns-left last left (Receipt to r q k ∷ t) fronts after turns =
      let later : KeepsFront t = λ i. fronts (suc i) in
      elim (cases_Bool (keep (Receipt to r q k))) [
        | inl is ↦ rw is (turns-left (Some to) (Some to) t later (same_next (Some to) t) turns)
        | inr is ↦ rw is (turns-left (Some to) left t later (left_next (Receipt to r q k) left t fronts is) turns)
      ]

-- a front of a run's actions that ends where a note comes next, or at their end, has the actions of a run
pub front_responds : {S N : Type 0} → (next : Next S N) (p n : ℕ) (state : S) (sends : List (ℕ × N)) (notes : List N) (xs rest : List (Action N))
    → ((y : Action N) (ys : List (Action N)) → rest ≡ y ∷ ys → IsNote y) → xs ++ rest ≡ map sent sends ++ responses next p n state notes
    → xs ≡ map sent sends ++ responses next p n state (notes_of xs)
front_responds next p n state [] notes [] rest ends is = refl
front_responds next p n state (s ∷ sends) notes [] rest ends is = absurd (ends (sent s) _ is)
front_responds next p n state [] (note ∷ notes) (took x ∷ xs) rest ends is =
    cc (front_responds next p n (next.step p n state note).state (next.step p n state note).sends.items notes xs rest ends (cc))
front_responds next p n state (s ∷ sends) notes (sent x ∷ xs) rest ends is = cc (front_responds next p n state sends notes xs rest ends (cc))
front_responds _ _ _ _ _ _ _ _ ends is = absurd cc

-- the notes of what is left
module _ {N : Type 0} (n : ℕ) (keep : Mark → Bool) (t : List (Event N)) (obeys : WellFormed n (map mark_of t)) (causes : KeepsCauses keep (map mark_of t)) where
  abbrev left : List (Event N)
  left = filter (λ e. keep (mark_of e)) t

  pub left-obeys : WellFormed n (map mark_of left)
  left-obeys = rw (marks-filter keep t) (WellFormed-kept n keep (map mark_of t) obeys causes)

  -- a note that is left was there
  pub note-was : (q k : ℕ) (x : N) → note_of left q k ≡ Some x → note_of t q k ≡ Some x
  note-was q k x is = search (arith, noted-sent left q k x is, At-filter, sent-noted n t obeys)

  -- the note of a member whose events are kept is left
  pub note-stays : (q k : ℕ) (x : N) → ((e : Mark) → Has (map mark_of t) e → member_of e ≡ q → keep e ≡ true) → note_of t q k ≡ Some x → note_of left q k ≡ Some x
  note-stays q k x all is =
      let sent = noted-sent t q k x is in
      let kept = all (mark.Send q k sent.1) (sent.0, mark-at t sent.0 (Send q k sent.1 x) sent.2) refl in
      let place = filter-At (λ e. keep (mark_of e)) t sent.0 (Send q k sent.1 x) sent.2 kept in
      sent-noted n left left-obeys place.0 q k sent.1 x place.1

-- a lawful trace of which each member's events before its place are kept, and the event at the place is a receipt of it
module _ {S N : Type 0} (next : Next S N) (n : ℕ) (starts : List (Start N)) (keep : Mark → Bool) (t : List (Event N)) (lawful : Lawful next n starts t) (causes : KeepsCauses keep (map mark_of t))
    (stop : ℕ → ℕ) (tells : (i : ℕ) (e : Event N) → slice_get t i ≡ Some e → keep (mark_of e) ≡ nat_lt i (stop (member_of (mark_of e))))
    (ends : (p : ℕ) (e : Event N) → slice_get t (stop p) ≡ Some e → (r : ℕ) × (q : ℕ) × (k : ℕ) × (e ≡ Receipt p r q k)) where
  abbrev keeps : Event N → Bool
  keeps e = keep (mark_of e)

  same_actions : (p : ℕ) → filter_map (action_of (filter keeps t) p) (filter keeps t) ≡ filter_map (action_of t p) (filter keeps t)
  same_actions p = filter_map-agree (action_of (filter keeps t) p) (action_of t p) (filter keeps t) agree where
    agree : (i : ℕ) (e : Event N) → slice_get (filter keeps t) i ≡ Some e → action_of (filter keeps t) p e ≡ action_of t p e
    agree i (Send q k to x) here = refl
    agree i (Receipt to r q k) here =
        let noted = receipts-noted n (filter keeps t) (left-obeys n keep t lawful.well_formed causes) i to r q k here in
        rw (noted.1, note-was n keep t lawful.well_formed causes q k noted.0 noted.1) refl

  -- a member's actions that are left are its first ones
  first_actions : (p : ℕ) → filter_map (action_of t p) (filter keeps t) ≡ filter_map (action_of t p) (take (stop p) t)
  first_actions p = grind (arith, nat_tests, front-left (action_of t p) keeps (stop p) t)

  -- and what comes next is a note
  then_note : (p : ℕ) (y : Action N) (ys : List (Action N)) → filter_map (action_of t p) (drop (stop p) t) ≡ y ∷ ys → IsNote y
  then_note p y ys is = elim (cases_lt (stop p) (length t)) [
    | inr past ↦ absurd (let none = rw (drop_all (stop p) t past) at is in cc)
    | inl below ↦
        let e = some-at t (stop p) below in
        let r = ends p e.0 e.1 in
        let here : slice_get t (stop p) ≡ Some (Receipt p r.0 r.1 r.2) = e.1 ∙ ap Some r.3 in
        let noted = receipts-noted n t lawful.well_formed (stop p) p r.0 r.1 r.2 here in
        let first = rw (drop_next t (stop p) (Receipt p r.0 r.1 r.2) here, eqb-self p, noted.1) at is in
        let same : took noted.0 ≡ y = cc in
        subst IsNote same tt
  ]

  pub Lawful-kept : Lawful next n starts (filter (λ e. keep (mark_of e)) t)
  Lawful-kept = record {
    well_formed = left-obeys n keep t lawful.well_formed causes;
    starts_first = rw (take-kept keeps (length starts) t starts_stay) lawful.starts_first;
    responds = λ p.
        let split = sym (filter_map-append (action_of t p) (take (stop p) t) (drop (stop p) t)) ∙ ap (filter_map (action_of t p)) (take-append-drop (stop p) t) in
        rw (same_actions p, first_actions p)
        (front_responds next p n (next.initial p n) (starts_of p starts) (notes_of (actions_of t p)) _ _ (then_note p) (split ∙ lawful.responds p));
    turns = rw (drop-kept keeps (length starts) t starts_stay) (turns-left keeps None None (drop (length starts) t) fronts (same_next keeps None (drop (length starts) t)) lawful.turns);
  }
    where
      fronts : KeepsFront keeps (drop (length starts) t)
      fronts i q k to x e here before own kept =
          let at : slice_get t (length starts + suc i) ≡ Some (Send q k to x) = At-drop t (length starts) (suc i) (Send q k to x) here in
          let at_before : slice_get t (length starts + i) ≡ Some e = At-drop t (length starts) i e before in
          let stays : nat_lt (length starts + suc i) (stop q) ≡ true = sym (tells (length starts + suc i) (Send q k to x) at) ∙ kept in
          tells (length starts + i) e at_before ∙ rw own (grind (arith, nat_tests, stays))

      starts_stay : (i : ℕ) (e : Event N) → i < length starts → slice_get t i ≡ Some e → keeps e ≡ true
      starts_stay i e below here =
          let m = member_of (mark_of e) in
          let none = λ (past : stop m ≤ i).
          let last = some-at t (stop m) (omega (arith, slice_get_within t i e here)) in
          let r = ends m last.0 last.1 in
          no_receipt (length starts) t (omega (arith, ap length lawful.starts_first)) (stop m) m r.0 r.1 r.2 (omega arith) (last.1 ∙ ap Some r.3) in
          tells i e here ∙ grind (arith, nat_tests, none)
