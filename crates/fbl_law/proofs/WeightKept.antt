-- What each step keeps, of predicates and of a weight, the whole group keeps.
use Rattle.fbl_law.proofs.Common.{one_send, ◌≡◌, ℕ, zero, suc, ◌<◌, ◌==◌, inl, inr, List, [], ◌∷◌, ◌++◌, take, drop, map, Some, slice_get, subst, refl, sym, ap, ◌∙◌, arith, length-take, All}
use Rattle.fbl_law.proofs.Common.{filter_map, fold, cases_eq, eq-eqb, ne_eqb, take-append-drop, All-head, All-tail, filter_map-append, Start, Event, mark_of, WellFormed, Next, Progress, Action, took}
use Rattle.fbl_law.proofs.Common.{sent, Lawful, action_of, actions_of, notes_of, note_of, responses, starts_of, At-front, At-below, split-at, after_notes-state, eqb-self, sent-before, StepKeeps}
use Rattle.fbl_law.proofs.Common.{HoldsFirst, GroupRecord, member_checkpoint, marks, IsSound, received_notes, All-cons, All-nil, All-take, HoldsOf, At-filter_map, All-contains, Option, None, cond}
use Rattle.fbl_law.proofs.Common.{nat_tests, ◌+◌, ◌≤◌, sum_by-cons, sum_by-append, Mark, MayFollow, in_flight, in_flight-send, in_flight-receipt, receipts-noted, WellFormed-keeps, Message, send_mark}
use Rattle.fbl_law.proofs.Common.{IsUp, member, channel, knowledge, sum_below, sum_by, option_map_or, fold-map, sum_by_push, sum_by-drop_more, get_or_from_slice_get, slice_get_within, StepMakesNone}
use Rattle.fbl_law.proofs.Common.{StepLosesNone, StepConserves, weight_after, weight_flying, weight_of, weight_at_first, weight_of_starts, WeighsNoMore, WeighsNoLess, WeighsTheSame}
use Rattle.fbl_law.proofs.Common.{messages_in_flight, nil_from_length}
use Rattle.fbl_trace.specs.declared.trace.Mark.TheVariants as mark
use Rattle.std.specs.FinSet as set
use Rattle.fbl_trace.specs.declared.trace.Event.TheVariants.{Send, Receipt}
use Rattle.fbl_law.proofs.Lists.{Contains-at, Contains-place, sum_below-none, sum_below-at}
use Rattle.fbl_law.proofs.Safe.{down_or_up, All-from, down_or_both_up, up_if_none}
use Rattle.fbl_law.proofs.ReplayedRecords.{noted-sent, sent-noted, mark-at, send-at}
use Rattle.fbl_law.proofs.Channels.{flight_sent, flight_at}
use Rattle.fbl_law.proofs.Promises.{up_state}

-- a trace that obeys the rules has the send of each receipt before it, with the note
receipt-noted : {N : Type 0} → (n : ℕ) (t : List (Event N)) (i p r q s : ℕ) → WellFormed n (map mark_of t) → slice_get t i ≡ Some (Receipt p r q s)
    → (x : N) × (note_of t q s ≡ Some x) × (j : ℕ) × (j < i) × (slice_get t j ≡ Some (Send q s p x))
receipt-noted n t i p r q s obeys here =
    let before = sent-before n (map mark_of t) obeys i p r q s (mark-at t i (Receipt p r q s) here) in
    let sent = send-at t before.0 q s p before.2 in
    (sent.0, sent-noted n t obeys before.0 q s p sent.0 sent.1, before.0, before.1, sent.1)

module _ {S N : Type 0} (next : Next S N) (n : ℕ) (P : ℕ → S → Type 0) (Q : ℕ → ℕ → N → Type 0) (keeps : StepKeeps next n P Q) where
  -- a send of the member, and a start, that has Q
  abbrev Sends : ℕ → ℕ × N → Type 0
  Sends m s = Q m s.0 s.1

  abbrev Starts : Start N → Type 0
  Starts s = Q s.from s.to s.note

  -- some member sent the note to the member
  abbrev pub Came : ℕ → N → Type 0
  Came m x = (q : ℕ) × Q q m x

  -- a member's send has Q, if what it took in before came from some member
  sent-kept : (m : ℕ) (state : S) (sends : List (ℕ × N)) (notes : List N) (xs ys : List (Action N)) (s : ℕ × N) → m < n → P m state → All (Sends m) sends
      → All (Came m) (notes_of xs) → xs ++ sent s ∷ ys ≡ map sent sends ++ responses next m n state notes → Sends m s
  sent-kept m state [] [] [] ys s below holds each came is = absurd cc
  sent-kept m state [] (note ∷ notes) (took x ∷ xs) ys s below holds each came is =
      let here = All-head (Came m) x (notes_of xs) came in
      search (arith, here, sent-kept m (next.step m n state note).state (next.step m n state note).sends.items notes xs ys s below, All-tail (Came m) x (notes_of xs) came)
  sent-kept m state (x ∷ sends) notes [] ys s below holds each came is = (let same : x ≡ s = cc in rw same at (All-head (Sends m) x sends each))
  sent-kept m state (x ∷ sends) notes (sent y ∷ xs) ys s below holds each came is =
      sent-kept m state sends notes xs ys s below holds (All-tail (Sends m) x sends each) came (cc)
  sent-kept m state sends notes xs ys s below holds each came is = absurd cc

  starts-kept : (m : ℕ) (starts : List (Start N)) → All Starts starts → All (Sends m) (starts_of m starts)
  starts-kept m starts each = All-from (Sends m) (starts_of m starts) (λ y among.
      let from : Start N → Option (ℕ × N) = λ s. cond (s.from == m) (Some (s.to, s.note)) None in
      let at = At-filter_map from starts among.0 y (Contains-place (starts_of m starts) y among) in
      let own : (at.1.from ≡ m) × (at.1.to ≡ y.0) × (at.1.note ≡ y.1) = grind (arith, nat_tests, at.3) in
      rw (own.0, own.1, own.2) at (All-contains Starts starts at.1 each (Contains-at starts at.0 at.1 at.2)))

  -- each send of the events has Q
  abbrev pub AllSent : List (Event N) → Type 0
  AllSent t = (i q s p : ℕ) (x : N) → slice_get t i ≡ Some (Send q s p x) → Q q p x

  module _ (starts : List (Start N)) (t : List (Event N)) (lawful : Lawful next n starts t) (at_first : (m : ℕ) → m < n → P m (next.initial m n)) (started : All Starts starts) where
    -- what a member takes in with these events came from some member, if each message received was sent with Q
    came-in : (m : ℕ) (u : List (Event N)) → ((i p r q s : ℕ) → slice_get u i ≡ Some (Receipt p r q s) → (x : N) × (note_of t q s ≡ Some x) × Q q p x)
        → All (Came m) (notes_of (filter_map (action_of t m) u))
    came-in m [] each = All-nil (Came m)
    came-in m (Send q s p x ∷ u) each =
        let same : notes_of (filter_map (action_of t m) (Send q s p x ∷ u)) ≡ notes_of (filter_map (action_of t m) u) = grind arith in
        rw same (came-in m u (λ i. each (suc i)))
    came-in m (Receipt p r q s ∷ u) each =
        let noted = each 0 p r q s refl in
        let rest = came-in m u (λ i. each (suc i)) in
        elim (cases_eq p m) [
          | inl own ↦ rw (eq-eqb p m own, noted.1) (All-cons (Came m) noted.0 (notes_of (filter_map (action_of t m) u)) (q, subst (λ (k : ℕ). Q q k noted.0) own noted.2) rest)
          | inr other ↦ rw (ne_eqb p m other) rest
        ]

    sent-below : (k i q s p : ℕ) (x : N) → i < k → slice_get t i ≡ Some (Send q s p x) → Q q p x
    sent-below zero i q s p x below here = absurd (omega arith)
    sent-below (suc k) i q s p x below here =
        let may = lawful.well_formed i (mark.Send q s p) (mark-at t i (Send q s p x) here) in
        let acts : actions_of t q ≡ filter_map (action_of t q) (take i t) ++ sent (p, x) ∷ filter_map (action_of t q) (drop (suc i) t) =
        ap (filter_map (action_of t q)) (split-at t i (Send q s p x) here) ∙ filter_map-append (action_of t q) (take i t) _ ∙ rw (eqb-self q) refl in
        sent-kept q (next.initial q n) (starts_of q starts) (received_notes t q) (filter_map (action_of t q) (take i t)) _ (p, x) may.0 (at_first q may.0) (starts-kept q starts started)
        (came-in q (take i t) (λ j p' r q' s' front.
        let at : slice_get t j ≡ Some (Receipt p' r q' s') = rw take-append-drop at (At-front (take i t) (drop i t) j (Receipt p' r q' s') front) in
        let noted = receipt-noted n t j p' r q' s' lawful.well_formed at in
        let early = At-below (take i t) j (Receipt p' r q' s') front in
        (noted.0, noted.1, sent-below k noted.2 q' s' p' noted.0 (omega (arith, noted.3, early, length-take i t, below)) noted.4)))
        (sym acts ∙ lawful.responds q)

    -- each send of the trace has Q
    pub all-sent : AllSent t
    all-sent i q s p x here = sent-below (suc i) i q s p x (omega arith) here

    -- each note that a member received has Q
    pub all-came : (m : ℕ) → All (Came m) (received_notes t m)
    all-came m = search (arith, came-in m t, receipt-noted n t, lawful.well_formed, all-sent)

  -- so the member's state has P, after each of its receipts
  pub state-kept : (m : ℕ) (state : S) (notes : List N) → m < n → P m state → All (Came m) notes → P m (fold (λ s x. (next.step m n s x).state) state notes)
  state-kept m state [] below holds came = holds
  state-kept m state (x ∷ notes) below holds came =
      search (arith, All-head (Came m) x notes came, state-kept m (next.step m n state x).state notes below, All-tail (Came m) x notes came)

-- what each step of n members keeps holds of a sound group of them, if it holds at first
pub holds-of_sound : {S N : Type 0} → (next : Next S N) (r : GroupRecord S N) (P : ℕ → S → Type 0) (Q : ℕ → ℕ → N → Type 0) → IsSound next r
    → StepKeeps next r.config.members P Q → HoldsFirst next r.config P Q → HoldsOf r P Q
holds-of_sound {S} {N} next r P Q sound keeps first = record {
  states = λ m below. elim (down_or_up r.down m) [
    | inl down ↦ rw (sound.blanks m below down) (first.0 m below)
    | inr up ↦ rw (up_state next r sound m below up) (state-kept next n P Q keeps m (next.initial m n) (received_notes r.trace m) below (first.0 m below) (came m))
  ];
  checkpoints = λ m below.
      let first_ones = take (member_checkpoint r m).received (received_notes r.trace m) in
      let e : (member_checkpoint r m).state ≡ fold (λ s x. (next.step m n s x).state) (next.initial m n) first_ones = ap (λ (x : Progress S N). x.state) (sound.saved m below).progress
      ∙ after_notes-state next m n r.config.starts first_ones in
      rw e (state-kept next n P Q keeps m (next.initial m n) first_ones below (first.0 m below) (All-take (Came next n P Q keeps m) (member_checkpoint r m).received (received_notes r.trace m) (came m)));
  flying = λ v flies.
      let sent = noted-sent r.trace v.from v.ssn v.note (sound.notes v flies) in
      let was = flight_sent sound.causes v flies in
      let here = mark-at r.trace sent.0 (Send v.from v.ssn sent.1 v.note) sent.2 in
      let place = one_send n (marks r) sound.lawful.well_formed v.from v.ssn sent.1 v.to sent.0 was.0 here was.1 in
      let e : sent.1 ≡ v.to = cc (rw place at here, was.1) in
      rw e at (every sent.0 v.from v.ssn sent.1 v.note sent.2);
  sent = every;
} where
  n : ℕ
  n = r.config.members

  every : AllSent next n P Q keeps r.trace
  every = all-sent next n P Q keeps r.config.starts r.trace sound.lawful first.0 first.1

  came : (m : ℕ) → All (Came next n P Q keeps m) (received_notes r.trace m)
  came m = all-came next n P Q keeps r.config.starts r.trace sound.lawful first.0 first.1 m

-- sums over members
sum_below-plus : (n : ℕ) (a b : ℕ → ℕ) → sum_below n (λ x. a x + b x) ≡ sum_below n a + sum_below n b
sum_below-plus zero a b = refl
sum_below-plus (suc n) a b = omega (arith, sum_below-plus n a b)

-- where each term of a sum of 0 has one of 0, the other sum is 0
sum_below-nothing : (n : ℕ) (a b : ℕ → ℕ) → ((x : ℕ) → a x ≡ 0 → b x ≡ 0) → sum_below n a ≡ 0 → sum_below n b ≡ 0
sum_below-nothing zero a b each none = refl
sum_below-nothing (suc n) a b each none = omega (arith, sum_below-nothing n a b each (omega arith), each n (omega arith))

-- one pair's term grows
table-at : (n q p d : ℕ) (a b : ℕ → ℕ → ℕ) → q < n → p < n → ((x y : ℕ) → b x y ≡ a x y + cond (p == y) (cond (q == x) d 0) 0)
    → sum_below n (λ x. sum_below n (b x)) ≡ sum_below n (λ x. sum_below n (a x)) + d
table-at n q p d a b below_q below_p grows = grind (arith, nat_tests, sum_below-at n q d (λ x. sum_below n (a x)) (λ x. sum_below n (b x)) row) where
  row : (x : ℕ) → sum_below n (b x) ≡ sum_below n (a x) + cond (q == x) d 0
  row x = grind (arith, nat_tests, sum_below-at n p (cond (q == x) d 0) (a x) (b x) (grows x))

-- sums of terms that agree at each place
sum_by-agree : {X : Type 0} (f g : X → ℕ) (xs : List X) → ((i : ℕ) (x : X) → slice_get xs i ≡ Some x → f x ≡ g x) → sum_by f xs ≡ sum_by g xs
sum_by-agree f g [] agree = refl
sum_by-agree f g (x ∷ xs) agree = omega (arith, sum_by-cons f x xs, sum_by-cons g x xs, agree 0 x refl, sum_by-agree f g xs (λ i. agree (suc i)))

-- what flows through the channels, with a weight for each message
module _ (n : ℕ) (w : ℕ → ℕ → ℕ) where
  abbrev pub weight_in : List Mark → ℕ → ℕ → ℕ
  weight_in t q p = sum_by (w q) (in_flight t q p)

  abbrev pub out : Mark → ℕ
  out (mark.Send q s p) = w q s
  out (mark.Receipt p r q s) = 0

  abbrev pub into : Mark → ℕ
  into (mark.Send q s p) = 0
  into (mark.Receipt p r q s) = w q s

  abbrev pub weight_on : List Mark → ℕ
  weight_on t = sum_below n (λ q. sum_below n (weight_in t q))

  pub flow : (t : List Mark) → WellFormed n t → weight_on t + sum_by into t ≡ sum_by out t
  flow t obeys = WellFormed-keeps n (λ (t : List Mark). weight_on t + sum_by into t ≡ sum_by out t) (omega (arith, none)) more t obeys where
    none : weight_on [] ≡ 0
    none = sum_below-none n _ (λ q. sum_below-none n _ (λ p. refl))

    more : (t : List Mark) (e : Mark) → WellFormed n t → MayFollow n t e → weight_on t + sum_by into t ≡ sum_by out t
        → weight_on (t ++ e ∷ []) + sum_by into (t ++ e ∷ []) ≡ sum_by out (t ++ e ∷ [])
    more t (mark.Send q s p) obeys may ih =
        let e : Mark = mark.Send q s p in
        let grown = table-at n q p (w q s) (weight_in t) (weight_in (t ++ e ∷ [])) may.0 may.1
        (λ a b. rw (in_flight-send n t obeys q s p a b may, sum_by-append (w a)) grind (arith, nat_tests)) in
        omega (arith, grown, ih, sum_by_push into t e, sum_by_push out t e)
    more t (mark.Receipt p r q s) obeys may ih =
        let e : Mark = mark.Receipt p r q s in
        let shrunk = table-at n q p (w q s) (weight_in (t ++ e ∷ [])) (weight_in t) may.0 may.1
        (λ a b. rw (in_flight-receipt n t obeys p r q s a b may)
        grind (arith, nat_tests, may.5, slice_get_within (in_flight t a b) 0 s, get_or_from_slice_get (in_flight t a b) 0 s s, sum_by-drop_more (w a) (in_flight t a b) 0 s)) in
        omega (arith, shrunk, ih, sum_by_push into t e, sum_by_push out t e)

-- what is given to one member each, summed over n members, is what there is
module _ {X Y : Type 0} (n : ℕ) (part : ℕ → X → Option Y) (g : Y → ℕ) (h : X → ℕ) where
  -- the element is given to one of the members alone, and weighs there what it does
  abbrev IsShared : X → Type 0
  IsShared x = (q : ℕ) × (q < n) × ((m : ℕ) → option_map_or g (part m x) 0 ≡ cond (q == m) (h x) 0)

  shared : (xs : List X) → ((i : ℕ) (x : X) → slice_get xs i ≡ Some x → IsShared x) → sum_below n (λ m. sum_by g (filter_map (part m) xs)) ≡ sum_by h xs
  shared [] each = sum_below-none n (λ m. 0) (λ m. refl)
  shared (x ∷ xs) each =
      let one = each 0 x refl in
      let all = sum_below-at n one.0 (h x) (λ m. sum_by g (filter_map (part m) xs)) (λ m. sum_by g (filter_map (part m) (x ∷ xs))) (λ m. grind (arith, one.2 m, sum_by-cons)) in
      grind (arith, nat_tests, all, one.1, shared xs (λ i. each (suc i)), sum_by-cons h x xs)

module _ {S N : Type 0} (next : Next S N) (r : GroupRecord S N) (P : ℕ → S → Type 0) (Q : ℕ → ℕ → N → Type 0) (mass : ℕ → S → ℕ) (weight : N → ℕ)
    (sound : IsSound next r) (keeps : StepKeeps next r.config.members P Q) (first : HoldsFirst next r.config P Q) where
  abbrev n : ℕ
  n = r.config.members

  -- what the channel from q to p weighs
  abbrev channel_weight : ℕ → ℕ → ℕ
  channel_weight q p = sum_by (λ (v : Message N). weight v.note) (channel r q p)

  abbrev acts : ℕ → List (Action N)
  acts m = actions_of r.trace m

  abbrev taken : Action N → ℕ
  taken (took x) = weight x
  taken (sent s) = 0

  abbrev given : Action N → ℕ
  given (took x) = 0
  given (sent s) = weight s.1

  -- what its first state weighs, and what its starts do
  abbrev firsts : ℕ → ℕ
  firsts m = mass m (next.initial m n)

  abbrev begins : ℕ → ℕ
  begins m = sum_by (λ (s : ℕ × N). weight s.1) (starts_of m r.config.starts)

  -- what a message weighs, by its number
  abbrev w : ℕ → ℕ → ℕ
  w q s = option_map_or weight (note_of r.trace q s) 0

  -- the member's state, by the trace
  abbrev reached : ℕ → S → List N → S
  reached m state notes = fold (λ s x. (next.step m n s x).state) state notes

  abbrev by_trace : ℕ → ℕ
  by_trace m = mass m (reached m (next.initial m n) (received_notes r.trace m))

  -- sends are given, and none of them is taken
  given-sends : (sends : List (ℕ × N)) (rest : List (Action N)) → sum_by given (map sent sends ++ rest) ≡ sum_by (λ (s : ℕ × N). weight s.1) sends + sum_by given rest
  given-sends sends rest = sum_by-append given (map sent sends) rest ∙ ap (λ k. k + sum_by given rest) (fold-map (λ a x. a + given x) sent 0 sends)

  taken-sends : (sends : List (ℕ × N)) (rest : List (Action N)) → sum_by taken (map sent sends ++ rest) ≡ sum_by taken rest
  taken-sends [] rest = refl
  taken-sends (s ∷ sends) rest = taken-sends sends rest

  -- the starts of each member, summed, are the starts
  starts-weigh : sum_below n begins ≡ weight_of_starts weight r.config
  starts-weigh =
      shared n (λ m s. cond (s.from == m) (Some (s.to, s.note)) None) (λ (s : ℕ × N). weight s.1) (λ s. weight s.note) r.config.starts
      (λ i s here. (s.from, (sound.config.starts i s here).0, λ m. grind arith))

  -- what the members do weighs what the events do, where each send and each receipt does, with its note
  acts-weigh : (g : Action N → ℕ) (h : Mark → ℕ) → ((q s p : ℕ) (x : N) → note_of r.trace q s ≡ Some x → g (sent (p, x)) ≡ h (mark.Send q s p))
      → ((p r' q s : ℕ) (x : N) → note_of r.trace q s ≡ Some x → g (took x) ≡ h (mark.Receipt p r' q s)) → sum_below n (λ m. sum_by g (acts m)) ≡ sum_by h (marks r)
  acts-weigh g h sends takes = shared n (action_of r.trace) g (λ e. h (mark_of e)) r.trace each ∙ sym (fold-map (λ a x. a + h x) mark_of 0 r.trace) where
    each : (i : ℕ) (e : Event N) → slice_get r.trace i ≡ Some e → IsShared n (action_of r.trace) g (λ e. h (mark_of e)) e
    each i (Send q s p x) here =
        let may = sound.lawful.well_formed i (mark.Send q s p) (mark-at r.trace i (Send q s p x) here) in
        (q, may.0, λ m. grind (arith, sends q s p x (sent-noted n r.trace sound.lawful.well_formed i q s p x here)))
    each i (Receipt p r' q s) here =
        let may = sound.lawful.well_formed i (mark.Receipt p r' q s) (mark-at r.trace i (Receipt p r' q s) here) in
        let noted = receipts-noted n r.trace sound.lawful.well_formed i p r' q s here in
        (p, may.1, λ m. rw noted.1 grind (arith, takes p r' q s noted.0 noted.1))

  -- what is in flight, and what the members took, is what they gave
  flows : weight_on n w (marks r) + sum_below n (λ m. sum_by taken (acts m)) ≡ sum_below n (λ m. sum_by given (acts m))
  flows = search (arith, acts-weigh given (out n w), acts-weigh taken (into n w), flow n w (marks r) sound.lawful.well_formed)

  up-weighs : (m : ℕ) → m < n → IsUp (knowledge r) m → mass m (member r m).state ≡ by_trace m
  up-weighs m below up = ap (mass m) (up_state next r sound m below up)

  -- the channel between two members that are up weighs what the trace has in flight there
  channel-weighs : (q p : ℕ) → IsUp (knowledge r) q → IsUp (knowledge r) p → channel_weight q p ≡ weight_in n w (marks r) q p
  channel-weighs q p up_q up_p =
      sum_by-agree (λ (v : Message N). weight v.note) (λ (v : Message N). w v.from v.ssn) (channel r q p) noted
      ∙ sym (fold-map (λ a x. a + out n w x) send_mark 0 (channel r q p)) ∙ ap (sum_by (out n w)) (sound.causes.channels q p up_q up_p)
      ∙ fold-map (λ a x. a + out n w x) (λ ssn. mark.Send q ssn p) 0 (in_flight (marks r) q p)
    where
      noted : (i : ℕ) (v : Message N) → slice_get (channel r q p) i ≡ Some v → weight v.note ≡ w v.from v.ssn
      noted i v here = rw (sound.notes v (flight_at sound.causes q p i v here).0) refl

  -- a relation of what is weighed after and before, as `≤` and its converse, that equal weights have and that their sums keep
  module _ (R : ℕ → ℕ → Type 0) (same : (a b : ℕ) → a ≡ b → R a b) (joined : (a b c d x y : ℕ) → R a b → R c d → x + b + d ≡ a + c + y → R x y)
      (law : (me from : ℕ) (state : S) (note : N) → me < n → P me state → Q from me note → R (weight_after next n mass weight me state note) (mass me state + weight note)) where
    sums-related : (k : ℕ) (a b : ℕ → ℕ) → ((x : ℕ) → x < k → R (a x) (b x)) → R (sum_below k a) (sum_below k b)
    sums-related zero a b each = same 0 0 refl
    sums-related (suc k) a b each = joined _ _ _ _ _ _ (sums-related k a b (λ x below. each x (omega arith))) (each k (omega arith)) (omega arith)

    member-related : (m : ℕ) (state : S) (notes : List N) → m < n → P m state → All (Came next n P Q keeps m) notes
        → R (mass m (reached m state notes) + sum_by given (responses next m n state notes)) (mass m state + sum_by taken (responses next m n state notes))
    member-related m state [] below holds came = same _ _ refl
    member-related m state (x ∷ notes) below holds came =
        let here = All-head (Came next n P Q keeps m) x notes came in
        let after = next.step m n state x in
        let ih = member-related m after.state notes below (keeps m here.0 state x below holds here.1).0 (All-tail (Came next n P Q keeps m) x notes came) in
        let rest = responses next m n after.state notes in
        let sends = map sent after.sends.items ++ rest in
        joined _ _ _ _ _ _ ih (law m here.0 state x below holds here.1)
        (omega (arith, sum_by-cons taken (took x) sends, sum_by-cons given (took x) sends, given-sends after.sends.items rest, taken-sends after.sends.items rest))

    -- what a member's state and its sends weigh, and what it began with and took in
    all-related : (m : ℕ) → m < n → R (by_trace m + sum_by given (acts m)) (firsts m + (begins m + sum_by taken (acts m)))
    all-related m below =
        let notes = received_notes r.trace m in
        let one = member-related m (next.initial m n) notes below (first.0 m below) (all-came next n P Q keeps r.config.starts r.trace sound.lawful first.0 first.1 m) in
        let gives = ap (sum_by given) (sound.lawful.responds m) ∙ given-sends (starts_of m r.config.starts) (responses next m n (next.initial m n) notes) in
        let takes = ap (sum_by taken) (sound.lawful.responds m) ∙ taken-sends (starts_of m r.config.starts) (responses next m n (next.initial m n) notes) in
        joined _ _ _ _ _ _ one (same 0 0 refl) (omega (arith, gives, takes))

    -- what the group weighs is related to what it began with, where what its members and channels weigh is to what they do by the trace
    group-related : ((m : ℕ) → m < n → R (cond (set.contains r.down m) 0 (mass m (member r m).state)) (by_trace m)) → ((q p : ℕ) → R (channel_weight q p) (weight_in n w (marks r) q p))
        → R (weight_of mass weight r) (weight_at_first next mass weight r.config)
    group-related states cells =
        let held = sums-related n _ _ states in
        let flying = sums-related n _ _ (λ q below. sums-related n (channel_weight q) (weight_in n w (marks r) q) (λ p below_p. cells q p)) in
        let now : R (weight_of mass weight r) (sum_below n by_trace + weight_on n w (marks r)) = joined _ _ _ _ _ _ held flying (omega arith) in
        joined _ _ _ _ _ _ now (sums-related n _ _ all-related)
        (omega (arith, flows, starts-weigh, sum_below-plus n by_trace (λ m. sum_by given (acts m)), sum_below-plus n firsts (λ m. begins m + sum_by taken (acts m)), sum_below-plus n begins (λ m. sum_by taken (acts m))))

  -- where each step makes no weight, the group weighs at most what it began with
  pub weighs_no_more : StepMakesNone next n P Q mass weight → WeighsNoMore next mass weight r
  weighs_no_more law =
      group-related (λ a b. a ≤ b) (λ a b is. omega arith) (λ a b c d x y first second is. omega arith) law
      (λ m below. grind (arith, down_or_up r.down m, up-weighs m below))
      (λ q p. grind (arith, down_or_both_up r.down q p, sound.causes.down.channels q p, channel-weighs q p))

  -- where nothing is in flight, that weighs nothing
  none-flying : messages_in_flight r ≡ 0 → weight_flying weight r ≡ 0
  none-flying = sum_below-nothing n _ _ (λ q. sum_below-nothing n _ (channel_weight q) (λ p none. rw (nil_from_length (channel r q p) none) refl))

  -- where each step loses none, and nobody is down, it weighs at least that
  pub weighs_no_less : StepLosesNone next n P Q mass weight → WeighsNoLess next mass weight r
  weighs_no_less law = record { whole = most; settled = λ nobody none. omega (arith, most nobody, none-flying none) } where
    most : r.down ≡ set.empty → weight_at_first next mass weight r.config ≤ weight_of mass weight r
    most nobody =
        let up = up_if_none nobody in
        group-related (λ a b. b ≤ a) (λ a b is. omega arith) (λ a b c d x y first second is. omega arith) law
        (λ m below. rw (up m) (omega (arith, up-weighs m below (up m)))) (λ q p. omega (arith, channel-weighs q p (up q) (up p)))

  pub weighs_the_same : StepConserves next n P Q mass weight → WeighsTheSame next mass weight r
  weighs_the_same law = search (arith, weighs_no_more, weighs_no_less, none-flying)
