-- Laws of the rules of events: traces that obey them, what is in flight after one more event, and what is counted.
use Rattle.fbl_trace.proofs.Common.{cases_Bool, slice_index, slice_set, ◌+◌, ◌==◌, ◌&&◌, not, ℕ, zero, suc, Bool, true, cond, ◌≡◌, ◌<◌, inl, inr, List, [], ◌∷◌, ◌++◌, length}
use Rattle.fbl_trace.proofs.Common.{take, drop, Some, refl, ap, ◌∙◌, arith, count_by, slice_get, nat_tests, filter_map, list_any, take-append-le, take_all, sum_by-cons, Mark, At}
use Rattle.fbl_trace.proofs.Common.{Has, is_send_of, sends_of, receipts_of, sent_on, taken_on, in_flight, MayFollow, WellFormed, append-nil, take-append-drop, sum_by_push, Send}
use Rattle.fbl_trace.proofs.Common.{Receipt, is_receipt_of, false, ◌≢◌, ◌≤◌, filter, list_any-append, filter-append, filter_map-append, first_in_flight, FitsEvent, next_number}
use Rattle.fbl_trace.proofs.Common.{Option, MatchOption, length-set, common_steps, Counted, EventRule, Counts, destination_of, source_of, CountsEvent, first_by, next_by, length-take, append_assoc}
use Rattle.fbl_trace.proofs.Common.{Decides, Determinant, determinant_of, receipt_of, same_determinant}
use Rattle.fbl_trace.proofs.Gets.{At-front, At-seam, At-below, At-push, At-filter, At-filter_map, Apart, Apart-filter, Apart-filter_map, slice_get-take}

-- determinants are compared by their four parts
pub Decides-same_determinant : (a b : Determinant) → Decides (same_determinant a b) (a ≡ b)
Decides-same_determinant a b = grind (arith, nat_tests)

-- an event with a determinant is its receipt
pub is_receipt : (e : Mark) (d : Determinant) → determinant_of e ≡ Some d → e ≡ receipt_of d
is_receipt e d h = grind (arith, nat_tests)

-- the empty trace obeys the rules
pub WellFormed-none : (n : ℕ) → WellFormed n []
WellFormed-none n i e at = absurd (omega (arith, At-below [] i e at))

-- so does one with one more event that may come next
pub WellFormed-push : (n : ℕ) (t : List Mark) (e : Mark) → WellFormed n t → MayFollow n t e → WellFormed n (t ++ e ∷ [])
WellFormed-push n t e obeys may i b at = elim (At-push t e i b at) [
  | inl old ↦ (let below = At-below t i b old in rw (take-append-le i t (e ∷ []) (omega (arith, below))) (obeys i b old))
  | inr new ↦ (let here : take i (t ++ e ∷ []) ≡ t = take-append-le i t (e ∷ []) (omega (arith, new.0)) ∙ take_all i t (omega (arith, new.0)) in rw (here, ← new.1) may)
]

-- the front of a trace that obeys the rules obeys them
pub WellFormed-front : (n : ℕ) (t rest : List Mark) → WellFormed n (t ++ rest) → WellFormed n t
WellFormed-front n t rest obeys i b at = (let below = At-below t i b at in rw (take-append-le i t rest (omega (arith, below))) at (obeys i b (At-front t rest i b at)))

pub WellFormed-take : (n i : ℕ) (t : List Mark) → WellFormed n t → WellFormed n (take i t)
WellFormed-take n i t obeys = WellFormed-front n (take i t) (drop i t) (rw take-append-drop obeys)

pub MayFollow-last : (n : ℕ) (t : List Mark) (e : Mark) → WellFormed n (t ++ e ∷ []) → MayFollow n t e
MayFollow-last n t e obeys =
    (let here : take (length t) (t ++ e ∷ []) ≡ t = take-append-le (length t) t (e ∷ []) (omega arith) ∙ take_all (length t) t (omega arith) in rw here at (obeys (length t) e (At-seam t e [])))

-- what holds of no event, and of one more that may come next, holds of each trace that obeys the rules
pub WellFormed-keeps : (n : ℕ) (P : List Mark → Type 0) → P [] → ((t : List Mark) (e : Mark) → WellFormed n t → MayFollow n t e → P t → P (t ++ e ∷ [])) → (t : List Mark) → WellFormed n t → P t
WellFormed-keeps n P none more t obeys = from [] t obeys none where
  from : (u rest : List Mark) → WellFormed n (u ++ rest) → P u → P (u ++ rest)
  from u [] obeys done = rw append-nil done
  from u (e ∷ rest) obeys done =
      let next : WellFormed n ((u ++ e ∷ []) ++ rest) = rw append_assoc obeys in
      let front = WellFormed-front n (u ++ e ∷ []) rest next in
      rw append_assoc at (from (u ++ e ∷ []) rest next (more u e (WellFormed-front n u (e ∷ []) front) (MayFollow-last n u e front) done))

pub eqb-self : (x : ℕ) → (x == x) ≡ true
eqb-self x = grind (arith, nat_tests)

pub sends-step : (t : List Mark) (e : Mark) (x : ℕ) → sends_of (t ++ e ∷ []) x ≡ sends_of t x + cond (is_send_of x e) 1 0
sends-step t e x = sum_by_push (λ y. cond (is_send_of x y) 1 0) t e

pub receipts-step : (t : List Mark) (e : Mark) (x : ℕ) → receipts_of (t ++ e ∷ []) x ≡ receipts_of t x + cond (is_receipt_of x e) 1 0
receipts-step t e x = sum_by_push (λ y. cond (is_receipt_of x y) 1 0) t e

-- a place that passes the test is counted
pub count_at : (p : Mark → Bool) (t : List Mark) (i : ℕ) (e : Mark) → At t i e → p e ≡ true → count_by p (take i t) < count_by p t
count_at p [] i e at passes = cc
count_at p (x ∷ t) zero e at passes = (let px : p x ≡ true = cc in rw (sum_by-cons (λ y. cond (p y) 1 0) x t, px) (omega arith))
count_at p (x ∷ t) (suc i) e at passes = omega (arith, sum_by-cons (λ y. cond (p y) 1 0) x t, sum_by-cons (λ y. cond (p y) 1 0) x (take i t), count_at p t i e at passes)

-- an event's number is at most how many of its kind its member has
pub sent-number : (n : ℕ) (t : List Mark) → WellFormed n t → (q s p : ℕ) → Has t (Send q s p) → s ≤ sends_of t q
sent-number n t obeys q s p has = omega (arith, (obeys has.0 (Send q s p) has.1).3, count_at (is_send_of q) t has.0 (Send q s p) has.1 (eqb-self q))

pub receipt-number : (n : ℕ) (t : List Mark) (p r q s : ℕ) → WellFormed n t → Has t (Receipt p r q s) → r ≤ receipts_of t p
receipt-number n t p r q s obeys has = omega (arith, (obeys has.0 (Receipt p r q s) has.1).3, count_at (is_receipt_of p) t has.0 (Receipt p r q s) has.1 (eqb-self p))

-- an event that may come next is not there yet
pub MayFollow-new : (n : ℕ) (t : List Mark) (e : Mark) → WellFormed n t → MayFollow n t e → ¬ (Has t e)
MayFollow-new n t (Send from ssn to) obeys may has = omega (arith, may.3, sent-number n t obeys from ssn to has)
MayFollow-new n t (Receipt to rsn from ssn) obeys may has = omega (arith, may.3, receipt-number n t to rsn from ssn obeys has)

-- which event tells of a message
pub is_sent : (q p s : ℕ) (e : Mark) → sent_on q p e ≡ Some s → e ≡ Send q s p
is_sent q p s e h = grind (arith, nat_tests)

-- a message in flight was sent
pub in_flight-sent : (t : List Mark) (q s p i : ℕ) → slice_get (in_flight t q p) i ≡ Some s → Has t (Send q s p)
in_flight-sent t q s p i here =
    let a = At-filter (λ ssn. not (list_any (λ taken. taken == ssn) (filter_map (taken_on q p) t))) (filter_map (sent_on q p) t) i s here in
    let b = At-filter_map (sent_on q p) t a.0 s a.1 in
    (b.0, b.2 ∙ ap Some (is_sent q p s b.1 b.3))

-- the message of a receipt was sent at an earlier place
pub sent-before : (n : ℕ) (t : List Mark) → WellFormed n t → (i to rsn from ssn : ℕ) → At t i (Receipt to rsn from ssn) → (j : ℕ) × (j < i) × At t j (Send from ssn to)
sent-before n t obeys i to rsn from ssn here =
    let may = obeys i (Receipt to rsn from ssn) here in
    let sent = in_flight-sent (take i t) from ssn to 0 may.5 in
    let below = At-below (take i t) sent.0 (Send from ssn to) sent.1 in
    (sent.0, omega (arith, below, length-take i t), (rw take-append-drop at (At-front (take i t) (drop i t) sent.0 (Send from ssn to) sent.1)))

is_taken : (q p s : ℕ) (e : Mark) → taken_on q p e ≡ Some s → (r : ℕ) × (e ≡ Receipt p r q s)
is_taken q p s e h = grind (arith, nat_tests)

-- a message that was taken was sent
pub taken-sent : (n : ℕ) (t : List Mark) → WellFormed n t → (q p s j : ℕ) → slice_get (filter_map (taken_on q p) t) j ≡ Some s → s ≤ sends_of t q
taken-sent n t obeys q p s j at =
    let r = At-filter_map (taken_on q p) t j s at in
    let e = is_taken q p s r.1 r.3 in
    let here : At t r.0 (Receipt p e.0 q s) = r.2 ∙ ap Some e.1 in
    let sent = sent-before n t obeys r.0 p e.0 q s here in
    sent-number n t obeys q s p (sent.0, sent.2)

-- the numbers on a channel rise
pub sent-rises : (n : ℕ) (t : List Mark) → WellFormed n t → (q p x y : ℕ) → Apart (filter_map (sent_on q p) t) x y → x < y
sent-rises n t obeys q p x y apart =
    let r = Apart-filter_map (sent_on q p) t x y apart in
    let at_y : At t r.2.1 (Send q y p) = r.2.4 ∙ ap Some (is_sent q p y r.1 r.4) in
    let front = slice_get-take t r.2.1 r.2.0 (Send q x p) r.2.2 (r.2.3 ∙ ap Some (is_sent q p x r.0 r.3)) in
    omega (arith, (obeys r.2.1 (Send q y p) at_y).3, sent-number n (take r.2.1 t) (WellFormed-take n r.2.1 t obeys) q x p (r.2.0, front))

-- a test that each element passes keeps the list
pub filter_all : {X : Type 0} (p : X → Bool) (xs : List X) → ((i : ℕ) (x : X) → slice_get xs i ≡ Some x → p x ≡ true) → filter p xs ≡ xs
filter_all p [] all = refl
filter_all p (x ∷ xs) all = (let h : p x ≡ true = all 0 x refl in rw h (ap (λ ys. x ∷ ys) (filter_all p xs (λ i y at. all (suc i) y at))))

-- a list with no such element
none_any : {X : Type 0} (p : X → Bool) (xs : List X) → ((i : ℕ) (x : X) → slice_get xs i ≡ Some x → p x ≡ false) → list_any p xs ≡ false
none_any p [] none = refl
none_any p (x ∷ xs) none = (let h : p x ≡ false = none 0 x refl in rw h (none_any p xs (λ i y at. none (suc i) y at)))

-- a send is in flight after what was in flight on its channel
pub in_flight-send : (n : ℕ) (t : List Mark) → WellFormed n t → (q s p a b : ℕ) → MayFollow n t (Send q s p)
    → in_flight (t ++ Send q s p ∷ []) a b ≡ in_flight t a b ++ (cond (q == a && p == b) (s ∷ []) [])
in_flight-send n t obeys q s p a b may =
    let taken : filter_map (taken_on a b) (t ++ Send q s p ∷ []) ≡ filter_map (taken_on a b) t = rw (filter_map-append (taken_on a b) t (Send q s p ∷ [])) (append-nil _) in
    let fresh : q ≡ a → list_any (λ k. k == s) (filter_map (taken_on a b) t) ≡ false = λ same. none_any (λ k. k == s) (filter_map (taken_on a b) t) (λ i x at.
    let below = taken-sent n t obeys a b x i at in
    let count = ap (sends_of t) same in
    grind (arith, nat_tests, may.3, below, count)) in
    rw (taken, filter_map-append (sent_on a b) t (Send q s p ∷ []), filter-append) (grind (arith, nat_tests, fresh))

-- to leave out one more number is to leave it out of what is left
filter_twice : (ks : List ℕ) (s : ℕ) (xs : List ℕ) → filter (λ x. not (list_any (λ k. k == x) (ks ++ s ∷ []))) xs ≡ filter (λ x. not (s == x)) (filter (λ x. not (list_any (λ k. k == x) ks)) xs)
filter_twice ks s [] = refl
filter_twice ks s (x ∷ xs) = grind (arith, filter_twice ks s xs, list_any-append (λ k. k == x) ks (s ∷ []))

filter_first : (s : ℕ) (xs : List ℕ) → slice_get xs 0 ≡ Some s → ((i x : ℕ) → slice_get xs (suc i) ≡ Some x → s ≢ x) → filter (λ x. not (s == x)) xs ≡ drop 1 xs
filter_first s [] first others = cc
filter_first s (x ∷ xs) first others =
    let e : s ≡ x = cc in
    let same : (s == x) ≡ true = grind (arith, nat_tests) in
    rw same (filter_all (λ y. not (s == y)) xs (λ i y at. (let ne = others i y at in grind (arith, nat_tests, ne))))

-- a receipt takes the first message off its channel
pub in_flight-receipt : (n : ℕ) (t : List Mark) → WellFormed n t → (p r q s a b : ℕ) → MayFollow n t (Receipt p r q s)
    → in_flight (t ++ Receipt p r q s ∷ []) a b ≡ cond (q == a && p == b) (drop 1 (in_flight t a b)) (in_flight t a b)
in_flight-receipt n t obeys p r q s a b may =
    rw (filter_map-append (sent_on a b) t (Receipt p r q s ∷ []), append-nil (filter_map (sent_on a b) t), filter_map-append (taken_on a b) t (Receipt p r q s ∷ []))
    (elim (cases_Bool (q == a && p == b)) [
      | inl own ↦
          let e1 : q ≡ a = grind (arith, nat_tests) in
          let e2 : p ≡ b = grind (arith, nat_tests) in
          let first : slice_get (in_flight t a b) 0 ≡ Some s = rw (← e1, ← e2) may.5 in
          rw own (filter_twice (filter_map (taken_on a b) t) s (filter_map (sent_on a b) t)
          ∙ filter_first s (in_flight t a b) first (λ i x at.
          let apart = Apart-filter (λ ssn. not (list_any (λ k. k == ssn) (filter_map (taken_on a b) t))) (filter_map (sent_on a b) t) s x (0, suc i, omega arith, first, at) in
          let rises = sent-rises n t obeys a b s x apart in
          omega (arith, rises)))
      | inr other ↦ rw (other, append-nil (filter_map (taken_on a b) t)) refl
    ])

-- what an event that may follow has
pub room : (n : ℕ) (t : List Mark) (e : Mark) → MayFollow n t e → length t < 8192
room n t e m = grind (arith, nat_tests)

pub fits : (n : ℕ) (t : List Mark) (e : Mark) → MayFollow n t e → FitsEvent n e (next_number t e) (first_in_flight t e)
fits n t e m = grind (arith, nat_tests)

pub may : (n : ℕ) (t : List Mark) → length t < 8192 → (e : Mark) → FitsEvent n e (next_number t e) (first_in_flight t e) → MayFollow n t e
may n t few (Send q s p) h = (h.0.0, h.0.1, h.0.2, h.1, few)
may n t few (Receipt p r q s) h = (h.0.0, h.0.1, h.0.2, h.1, few, h.2)

-- the number that an event has to have by the counts is that by the trace
next_counted : (t : List Mark) (c : Counts) → Counted t c → (e : Mark) → source_of e < 16 → destination_of e < 16 → next_by c e ≡ next_number t e
next_counted t c counted e below_q below_p = grind (arith, nat_tests)

-- and so is the verdict on it
module _ (n : ℕ) (t : List Mark) (c : Counts) (counted : Counted t c) (few : length t < 8192) (e : Mark) (ends : (source_of e < 16) × (destination_of e < 16))
    (next : ℕ) (first : Option ℕ) (is_next : next ≡ next_by c e) (is_first : first ≡ first_by c e) where
  number : next ≡ next_number t e
  number = is_next ∙ next_counted t c counted e ends.0 ends.1

  message : first ≡ first_in_flight t e
  message = is_first ∙ ap (λ xs. slice_get xs 0) (counted.channels (source_of e) (destination_of e) ends.0 ends.1)

  pub judged : (found : Option EventRule) → MatchOption found (FitsEvent n e next first) (λ _. ¬ (FitsEvent n e next first)) → MatchOption found (MayFollow n t e) (λ _. ¬ (MayFollow n t e))
  judged found h = grind (arith, nat_tests, may, number, message, fits)

module _ (n : ℕ) (t : List Mark) (c d : Counts) (most : n ≤ 16) (obeys : WellFormed n t) (counted : Counted t c) where
  -- the count of a member that has one event more of the kind, and the others' as they were
  count_now : (kind : ℕ → Mark → Bool) (old new : List ℕ) (e : Mark) (m k : ℕ) → (length old ≡ 16) × ((x : ℕ) → x < 16 → slice_index old x ≡ count_by (kind x) t)
      → ((x : ℕ) → kind x e ≡ (m == x)) → k ≡ count_by (kind m) t + 1 → new ≡ slice_set old m k → (x : ℕ) → x < 16 → slice_index new x ≡ count_by (kind x) (t ++ e ∷ [])
  count_now kind old new e m k was own number is x below = grind (arith, nat_tests, common_steps, number, sum_by_push)

  pub counted_event : (e : Mark) → MayFollow n t e → CountsEvent e c d → Counted (t ++ e ∷ []) d
  counted_event (Send q s p) may counts =
      let here = counted.channels q p (omega (arith, may.0, most)) (omega (arith, may.1, most)) in
      record {
        sends = count_now is_send_of c.sends d.sends (Send q s p) q s (counted.sends_length, counted.sends) (λ x. refl) may.3 counts.0;
        receipts = λ x below. rw counts.1 (omega (arith, counted.receipts x below, receipts-step t (Send q s p) x));
        channels = λ x y below_x below_y.
            rw counts.2 (grind (arith, nat_tests, common_steps, here, counted.channels x y below_x below_y, in_flight-send n t obeys q s p x y may, counted.channels_length));
        sends_length = rw (counts.0, length-set) counted.sends_length;
        receipts_length = rw counts.1 counted.receipts_length;
        channels_length = rw (counts.2, length-set) counted.channels_length;
      }
  counted_event (Receipt p r q s) may counts =
      let here = counted.channels q p (omega (arith, may.0, most)) (omega (arith, may.1, most)) in
      record {
        sends = λ x below. rw counts.0 (omega (arith, counted.sends x below, sends-step t (Receipt p r q s) x));
        receipts = count_now is_receipt_of c.receipts d.receipts (Receipt p r q s) p r (counted.receipts_length, counted.receipts) (λ x. refl) may.3 counts.1;
        channels = λ x y below_x below_y.
            rw counts.2 (grind (arith, nat_tests, common_steps, here, counted.channels x y below_x below_y, in_flight-receipt n t obeys p r q s x y may, counted.channels_length));
        sends_length = rw counts.0 counted.sends_length;
        receipts_length = rw (counts.1, length-set) counted.receipts_length;
        channels_length = rw (counts.2, length-set) counted.channels_length;
      }
