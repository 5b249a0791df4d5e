-- Laws of the members' own items in a list in which those of different members are mixed: events, or entries.
use Rattle.fbl_order.proofs.Common.{Bool, List, ℕ, zero, suc, [], ◌∷◌, ◌++◌, ◌+◌, ◌==◌, ◌≡◌, ◌≢◌, ◌≤◌, ◌<◌, ◌∙◌, true, false, None, Option, Some, cond, refl, sym, ap}
use Rattle.fbl_order.proofs.Common.{subst, length, length-set, take, arith, add-one, take-more, eqb-self, eqb-true, false≢true, get_or, nat_tests, append-nil}
use Rattle.fbl_order.proofs.Common.{filter-append, take-append-drop, drop, IsPermutation, IsPermutation-cons, IsPermutation-middle, IsPermutation-refl}
use Rattle.fbl_order.proofs.Common.{IsPermutation-sym, IsPermutation-trans, slice_get, slice_get_within, inl, inr, cases_eq, cases_lt, Begins, length-append}
use Rattle.std.proofs.Common.{get_or-set_other, get_or-set_same, set}
use Rattle.std.proofs.lemmas.List.{take-take, get_or_default}
use Rattle.std.proofs.lemmas.List.Sorted.{length_permutation}
use Rattle.fbl_runs.proofs.Listing.{some_item}
use Rattle.fbl_order.specs.Cursors.{AreCursors, IsFirstFrom, IsInStep, IsLeastCursor, IsLeastGiven, IsNextOf, cursor_in, own}

module _ {X : Type 0} (of : X → ℕ) where
  -- a member's items with one item more
  pub own-push : (q : ℕ) (t : List X) (x : X) → of x ≡ q → own of q (t ++ x ∷ []) ≡ own of q t ++ x ∷ []
  own-push q t x mine = (let is : (of x == q) ≡ true = grind (arith, nat_tests) in filter-append (λ y. of y == q) t (x ∷ []) ∙ (rw is refl))

  pub own-push_other : (q : ℕ) (t : List X) (x : X) → of x ≢ q → own of q (t ++ x ∷ []) ≡ own of q t
  own-push_other q t x other =
      let is : (of x == q) ≡ false = grind (arith, nat_tests) in
      filter-append (λ y. of y == q) t (x ∷ []) ∙ (rw (is, append-nil) refl)

  pub own-take : (q : ℕ) (t : List X) (i : ℕ) (x : X) → slice_get t i ≡ Some x → of x ≡ q → own of q (take (i + 1) t) ≡ own of q (take i t) ++ x ∷ []
  own-take q t i x at mine = rw (add-one, take-more t i x at) (own-push q (take i t) x mine)

  pub own-take_other : (q : ℕ) (t : List X) (i : ℕ) (x : X) → slice_get t i ≡ Some x → of x ≢ q → own of q (take (i + 1) t) ≡ own of q (take i t)
  own-take_other q t i x at other = rw (add-one, take-more t i x at) (own-push_other q (take i t) x other)

  -- those of a front begin them
  pub own-front : (q i : ℕ) (t : List X) → Begins (own of q (take i t)) (own of q t)
  own-front q i t = (own of q (drop i t), ap (own of q) (sym (take-append-drop i t)) ∙ filter-append (λ y. of y == q) (take i t) (drop i t))

  -- ---- lists in which each member's own are the same

  -- a list, cut at the first item of a member
  pub first_of : (q : ℕ) (b : List X) (x : X) (xs : List X) → own of q b ≡ x ∷ xs
      → (front : List X) × (back : List X) × (b ≡ front ++ x ∷ back) × (own of q front ≡ []) × (own of q back ≡ xs)
  first_of q [] x xs h = cc
  first_of q (y ∷ b) x xs h = (elim (of y == q) as (λ v. (of y == q) ≡ v → cond v (y ∷ own of q b) (own of q b) ≡ x ∷ xs
      → (front : List X) × (back : List X) × (y ∷ b ≡ front ++ x ∷ back) × (own of q front ≡ []) × (own of q back ≡ xs)) [
        | true ↦ λ is g. ([], b, cc, refl, cc)
        | false ↦ λ is g. (let r = first_of q b x xs g in (y ∷ r.0, r.1, ap (λ z. y ∷ z) r.2, rw is r.3, r.4))
      ]) refl h

  -- what a list has beyond another whose members' own are fronts of its own: items with what is left of each
  pub beyond : (s t : List X) (left : ℕ → List X) → ((q : ℕ) → own of q t ≡ own of q s ++ left q)
      → (r : List X) × IsPermutation (s ++ r) t × ((q : ℕ) → own of q r ≡ left q)
  beyond [] t left logs = (t, IsPermutation-refl t, logs)
  beyond (x ∷ s) t left logs =
      let mine : (of x == of x) ≡ true = eqb-self (of x) in
      let at : own of (of x) t ≡ x ∷ (own of (of x) s ++ left (of x)) = (rw mine at (logs (of x))) in
      let cut = first_of (of x) t x (own of (of x) s ++ left (of x)) at in
      let r = beyond s (cut.0 ++ cut.1) left (λ q. (elim (of x == q) as (λ v. (of x == q) ≡ v → own of q t ≡ cond v (x ∷ own of q s) (own of q s) ++ left q
      → own of q (cut.0 ++ cut.1) ≡ own of q s ++ left q) [
        | true ↦ λ is g.
            let same : of x ≡ q = eqb-true (of x) q is in
            filter-append (λ y. of y == q) cut.0 cut.1 ∙ (rw (← same) (rw (cut.3, cut.4) refl))
        | false ↦ λ is g.
            let whole : own of q t ≡ own of q cut.0 ++ own of q (x ∷ cut.1) = ap (own of q) cut.2 ∙ filter-append (λ y. of y == q) cut.0 (x ∷ cut.1) in
            filter-append (λ y. of y == q) cut.0 cut.1 ∙ sym (rw is at whole) ∙ g
      ]) refl (logs q)) in (
        r.0,
        subst (λ (z : List X). IsPermutation (x ∷ (s ++ r.0)) z) (sym cut.2)
            (IsPermutation-trans _ _ _ (IsPermutation-cons x (s ++ r.0) (cut.0 ++ cut.1) r.1) (IsPermutation-sym _ _ (IsPermutation-middle cut.0 x cut.1))),
        r.2,
      )

  -- no item is nobody's
  no_items : (r : List X) → ((q : ℕ) → own of q r ≡ []) → r ≡ []
  no_items [] none = refl
  no_items (x ∷ r) none = (let mine : (of x == of x) ≡ true = eqb-self (of x) in let h : x ∷ own of (of x) r ≡ [] = rw mine at (none (of x)) in cc)

  -- lists in which each member's own are the same have the same items
  pub same_own-permutation : (s t : List X) → ((q : ℕ) → own of q s ≡ own of q t) → IsPermutation s t
  same_own-permutation s t same =
      let r = beyond s t (λ q. []) (λ q. sym (same q) ∙ sym (append-nil (own of q s))) in
      let none = no_items r.0 r.2 in
      (rw (none, append-nil) at r.1)

  pub same_own-length : (s t : List X) → ((q : ℕ) → own of q s ≡ own of q t) → length s ≡ length t
  same_own-length s t same = sym (length_permutation s t (same_own-permutation s t same))

  pub own-begin-length : (s t : List X) → ((q : ℕ) → Begins (own of q s) (own of q t)) → length s ≤ length t
  own-begin-length s t begin =
      let r = beyond s t (λ q. (begin q).0) (λ q. (begin q).1) in
      omega (arith, length_permutation (s ++ r.0) t r.1, length-append s r.0)

  -- ---- where the members' next items stand

  -- the cursors with one more item in front
  pub in_front : (items : List X) (cursors : List ℕ) (place number : ℕ) (x : X) → slice_get items place ≡ Some x → of x ≡ number → number < length cursors
      → ((q : ℕ) → IsFirstFrom of items (place + 1) q (get_or cursors q (length items)))
      → (q : ℕ) → IsFirstFrom of items place q (get_or (set cursors number place) q (length items))
  in_front items cursors place number x at mine within firsts q = elim (cases_eq q number) [
    | inl same ↦ rw (same, get_or-set_same) (record {
      later = omega arith;
      next = (omega (arith, slice_get_within items place x at), λ b here. (let is : x ≡ b = cc in rw (← is) mine));
      skips = refl;
    })
    | inr other ↦ rw get_or-set_other (
        let old = firsts q in
        record { later = omega (arith, old.later); next = old.next; skips = old.skips ∙ own-take_other q items place x at (λ is. other (sym is ∙ mine)) }
        )
  ]

-- the cursor of a member, as it is read
pub cursor_at : {X : Type 0} (items : List X) (cursors : List ℕ) → length cursors ≡ 16 → (k q : ℕ) → k < 16 → k ≡ q
    → get_or cursors k 0 ≡ cursor_in items cursors q
cursor_at items cursors room k q below is = get_or_default cursors k 0 (length items) (omega (arith, room, below)) ∙ ap (cursor_in items cursors) is

-- before the first item
pub none_passed : {X : Type 0} (of : X → ℕ) (items : List X) (cursors : List ℕ) → ((q : ℕ) → IsFirstFrom of items 0 q (cursor_in items cursors q))
    → length cursors ≡ 16 → AreCursors of items [] cursors
none_passed of items cursors firsts room = record { logs = λ q. sym (firsts q).skips; next = λ q. (firsts q).next; room = room }

-- the run has no more than the items
pub few_passed : {X : Type 0} (of : X → ℕ) (items run : List X) (cursors : List ℕ) → AreCursors of items run cursors → length run ≤ length items
few_passed of items run cursors are = own-begin-length of run items
    (λ q. (let front = own-front of q (cursor_in items cursors q) items in rw (are.logs q) front))

-- where a run is in step, the next item is that of its member's cursor
pub here_in_step : {X : Type 0} (of : X → ℕ) (items run : List X) (cursors : List ℕ) (x : X) → AreCursors of items run cursors → IsInStep items run cursors
    → slice_get items (length run) ≡ Some x → cursor_in items cursors (of x) ≡ length run
here_in_step {X} of items run cursors x are step at = elim (cases_lt (length run) c) [
  | inl more ↦
      let front = own-front of q (length run + 1) (take c items) in
      let cut : take (length run + 1) (take c items) ≡ take (length run + 1) items = (let within : length run + 1 ≤ c = omega arith in rw take-take refl) in
      let longer = ap (λ (xs : List X). length (own of q xs)) cut ∙ ap length (own-take of q items (length run) x at refl) in
      let same = ap length (sym (are.logs q) ∙ ap (own of q) step.front) in
      absurd (omega (arith, ap length front.1, longer, same, length-append {A = X}))
  | inr less ↦ omega (arith, less, step.ahead q)
] where
  q : ℕ
  q = of x

  c : ℕ
  c = cursor_in items cursors (of x)

-- and the least cursor, if it may come
pub least_in_step : {X : Type 0} (MayCome : ℕ → Type 0) (of : X → ℕ) (items run : List X) (cursors : List ℕ) (place : ℕ) → AreCursors of items run cursors
    → IsInStep items run cursors → place < length items → IsLeastCursor MayCome (cursor_in items cursors) (Some place)
    → ((x : X) → slice_get items (length run) ≡ Some x → MayCome (length run)) → place ≡ length run
least_in_step MayCome of items run cursors place are step within least may = elim (cases_lt (length run) place) [
  | inl more ↦
      let x = some_item items (length run) (omega (arith, more, within)) in
      let here = here_in_step of items run cursors x.0 are step x.1 in
      absurd (omega (arith, more, here, least.2 (of x.0) (rw here (may x.0 x.1))))
  | inr less ↦ omega (arith, less, step.ahead least.1.0, least.1.1)
]

-- an item at a cursor is passed
module _ {X : Type 0} (of : X → ℕ) (items run : List X) (cursors : List ℕ) (place number next : ℕ) (x : X) (are : AreCursors of items run cursors)
    (here : (q : ℕ) × (cursor_in items cursors q ≡ place)) (at : slice_get items place ≡ Some x) (mine : of x ≡ number) (room : number < 16)
    (first : IsFirstFrom of items (place + 1) number next) where
  pub was : cursor_in items cursors number ≡ place
  was =
      let there : slice_get items (cursor_in items cursors here.0) ≡ Some x = rw here.1 at in
      let is : number ≡ here.0 = sym mine ∙ (are.next here.0).1 x there in
      ap (cursor_in items cursors) is ∙ here.1

  cursor_own : cursor_in items (set cursors number next) number ≡ next
  cursor_own = (let within : number < length cursors = omega (arith, are.room, room) in rw get_or-set_same refl)

  cursor_other : (q : ℕ) → q ≢ number → cursor_in items (set cursors number next) q ≡ cursor_in items cursors q
  cursor_other q other = rw get_or-set_other refl

  logs : (q : ℕ) → own of q (run ++ x ∷ []) ≡ own of q (take (cursor_in items (set cursors number next) q) items)
  logs q = elim (cases_eq q number) [
    | inl is ↦
        own-push of q run x (mine ∙ sym is)
        ∙ ap (λ (xs : List X). xs ++ x ∷ []) (are.logs q ∙ ap (λ (k : ℕ). own of q (take k items)) (ap (cursor_in items cursors) is ∙ was))
        ∙ sym (own-take of q items place x at (mine ∙ sym is))
        ∙ (rw (← is) at (sym first.skips))
        ∙ ap (λ (k : ℕ). own of q (take k items)) (sym (ap (cursor_in items (set cursors number next)) is ∙ cursor_own))
    | inr other ↦
        own-push_other of q run x (λ is. other (sym is ∙ mine))
        ∙ are.logs q
        ∙ ap (λ (k : ℕ). own of q (take k items)) (sym (cursor_other q other))
  ]

  nexts : (q : ℕ) → IsNextOf of items q (cursor_in items (set cursors number next) q)
  nexts q = elim (cases_eq q number) [
    | inl is ↦ subst (λ (k : ℕ). IsNextOf of items q k) (sym (ap (cursor_in items (set cursors number next)) is ∙ cursor_own)) (rw is first.next)
    | inr other ↦ subst (λ (k : ℕ). IsNextOf of items q k) (sym (cursor_other q other)) (are.next q)
  ]

  pub passed : AreCursors of items (run ++ x ∷ []) (set cursors number next)
  passed = record { logs = logs; next = nexts; room = rw length-set are.room }

  pub passed_in_step : IsInStep items run cursors → place ≡ length run → IsInStep items (run ++ x ∷ []) (set cursors number next)
  passed_in_step step is =
      let longer : length (run ++ x ∷ []) ≡ place + 1 = omega (arith, is, length-append run (x ∷ [])) in
      record {
        front =
            ap (λ (xs : List X). xs ++ x ∷ []) (step.front ∙ ap (λ (k : ℕ). take k items) (sym is))
            ∙ sym (take-more items place x at)
            ∙ ap (λ (k : ℕ). take k items) (sym (longer ∙ add-one place));
        ahead = λ q. elim (cases_eq q number) [
          | inl own ↦ omega (arith, longer, first.later, ap (cursor_in items (set cursors number next)) own, cursor_own)
          | inr other ↦
              let differs : cursor_in items cursors q ≢ place = λ same. other (sym ((are.next q).1 x (rw same at)) ∙ mine) in
              omega (arith, longer, is, step.ahead q, differs, cursor_other q other)
        ];
      }

-- ---- the least cursor

-- of the cursors of the members below the number the least for which the answer is yes, or the end
pub record IsLeastBelow (Gives : ℕ → Bool → Type 0) (cursors : List ℕ) (end below least : ℕ) : Type 0 where
  pub within : least ≤ end
  pub some : least < end → Gives least true × ((q : ℕ) × (get_or cursors q end ≡ least))
  pub each : (q : ℕ) → q < below → get_or cursors q end < least → Gives (get_or cursors q end) false

-- a cursor before the end is that of a member
within_room : (cursors : List ℕ) (q end : ℕ) → get_or cursors q end < end → q < length cursors
within_room [] q end below = absurd (omega arith)
within_room (x ∷ cursors) zero end below = omega arith
within_room (x ∷ cursors) (suc q) end below = (let more = within_room cursors q end below in omega (arith, more))

-- of all cursors it is the least, or there is none before the end
pub least_found : (Gives : ℕ → Bool → Type 0) (cursors : List ℕ) (end all least : ℕ) → length cursors ≤ all → IsLeastBelow Gives cursors end all least
    → least < end → IsLeastGiven Gives cursors end (Some least)
least_found Gives cursors end all least room kept before = record {
  none = λ no q below. absurd (cc);
  some = λ place is. (let same : least ≡ place = cc in rw (← same) (before, (kept.some before).0, (kept.some before).1));
  before = λ place is q below.
      let same : least ≡ place = cc in
      let within = within_room cursors q end (omega (arith, same, below, before)) in
      kept.each q (omega (arith, within, room)) (omega (arith, same, below));
}

pub least_none : (Gives : ℕ → Bool → Type 0) (cursors : List ℕ) (end all least : ℕ) → length cursors ≤ all → IsLeastBelow Gives cursors end all least
    → end ≤ least → IsLeastGiven Gives cursors end None
least_none Gives cursors end all least room kept past = record {
  none = λ no q below. kept.each q (omega (arith, within_room cursors q end below, room)) (omega (arith, below, past));
  some = λ place is. absurd (cc);
  before = λ place is q below. absurd (cc);
}

-- where the answer is yes exactly at the places at which something may come, it is the least of these
pub least_may : (Gives : ℕ → Bool → Type 0) (MayCome : ℕ → Type 0) (cursors : List ℕ) (end : ℕ) (r : Option ℕ) → IsLeastGiven Gives cursors end r
    → ((p : ℕ) (b : Bool) → p < end → Gives p b → ((b ≡ true → MayCome p) × (MayCome p → b ≡ true)))
    → ((p : ℕ) → MayCome p → p < end)
    → IsLeastCursor MayCome (λ q. get_or cursors q end) r
least_may Gives MayCome cursors end None given told within =
    λ q may. (
    let below = within _ may in
    absurd (false≢true ((told _ false below (given.none refl q below)).1 may))
    )
least_may Gives MayCome cursors end (Some p) given told within =
    let some = given.some p refl in (
      (told p true some.0 some.1).0 refl,
      some.2,
      λ q may. elim (cases_lt (get_or cursors q end) p) [
        | inl less ↦ absurd (false≢true ((told _ false (within _ may) (given.before p refl q less)).1 may))
        | inr more ↦ more
      ],
    )
