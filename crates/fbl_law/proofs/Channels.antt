-- Channels and the trace: each channel is first in, first out, and how channels are made again from their sender's log.
use Rattle.fbl_law.proofs.Common.{◌≡◌, ℕ, suc, ◌<◌, ◌≤◌, nat_lt, false, List, [], ◌∷◌, ◌++◌, Some, slice_get, refl, ap, ◌∙◌, arith, append_assoc, filter, filter_map, fold, nat_tests}
use Rattle.fbl_law.proofs.Common.{filter_map-append, Mark, taken_on, sent_on, in_flight, MayFollow, WellFormed, At-front, At-filter_map, WellFormed-keeps, is_sent, in_flight-send, in_flight-receipt}
use Rattle.fbl_law.proofs.Common.{last_taken, append-nil, Send, Receipt, Apart, Apart-later, filter_all, sent-rises, ◌≢◌, ◌+◌, length, map, option_map, sym, map-append, slice_get-map, Has}
use Rattle.fbl_law.proofs.Common.{receipts_of, map-At, WellFormed-front, in_flight-sent, Message, Knowledge, IsSoundKnowledge, send_mark, IsInFlight, IsUp, between, taken_off, drop-map, ◌==◌, ◌&&◌}
use Rattle.fbl_law.proofs.Common.{◌⊎◌, inl, inr, subst, Contains, Event, mark_of, Next, Progress, Logged, Lawful, note_of, At-filter, Entry, last_from, GroupRecord, member, channel, marks, IsFold}
use Rattle.fbl_law.proofs.Common.{IsMadeAgain, resent_to, logged_beyond, resent, get_or, get_or_past, HasChannels, destination_of, cases_lt}
use Rattle.fbl_law.proofs.Common.{OfSound}
use Rattle.fbl_law.specs.GroupLaws.{IsFirstInFirstOut}
use Rattle.fbl_trace.specs.declared.trace.Event.TheVariants as event
use Rattle.fbl_law.proofs.Lists.{filter-passes, Contains-at, Contains-place, Contains-changed, Contains-none}
use Rattle.fbl_law.proofs.Receipts.{MayFollow-seam}
use Rattle.fbl_law.proofs.Safe.{up_at_ends}
use Rattle.fbl_law.proofs.ReplayedRecords.{logged_of, log-sends, sent-noted}

-- messages are taken in the order in which they were sent: what was sent is what was taken, and then what is in flight
pub fifo : (n : ℕ) (t : List Mark) (q p : ℕ) → WellFormed n t → filter_map (sent_on q p) t ≡ filter_map (taken_on q p) t ++ in_flight t q p
fifo n t q p obeys = WellFormed-keeps n (λ u. filter_map (sent_on q p) u ≡ filter_map (taken_on q p) u ++ in_flight u q p) refl more t obeys where
  more : (u : List Mark) (e : Mark) → WellFormed n u → MayFollow n u e → filter_map (sent_on q p) u ≡ filter_map (taken_on q p) u ++ in_flight u q p
      → filter_map (sent_on q p) (u ++ e ∷ []) ≡ filter_map (taken_on q p) (u ++ e ∷ []) ++ in_flight (u ++ e ∷ []) q p
  more u (Send q' s p') obeys may was =
      rw (in_flight-send n u obeys q' s p' q p may, filter_map-append (sent_on q p), filter_map-append (taken_on q p), was, append-nil, append_assoc) grind (arith)
  more u (Receipt p' r q' s) obeys may was =
      search (arith, in_flight-receipt n u obeys p' r q' s q p may, filter_map-append (sent_on q p), filter_map-append (taken_on q p), append-nil, append_assoc)

-- in a rising list whose front has been taken, the numbers beyond the last one taken are the rest
abbrev last_of : ℕ → List ℕ → ℕ
last_of z xs = fold (λ last x. x) z xs

last-above : (z y : ℕ) (xs : List ℕ) → z ≤ y → ((i x : ℕ) → slice_get xs i ≡ Some x → z < x) → z ≤ last_of y xs
last-above z y [] below above = below
last-above z y (x ∷ xs) below above = last-above z x xs (omega (arith, above 0 x refl)) (λ i. above (suc i))

beyond-last : (z : ℕ) (xs ys : List ℕ) → ((i x : ℕ) → slice_get (xs ++ ys) i ≡ Some x → z < x) → ((x y : ℕ) → Apart (xs ++ ys) x y → x < y)
    → filter (λ x. nat_lt (last_of z xs) x) (xs ++ ys) ≡ ys
beyond-last z [] ys above rises = filter_all (λ x. nat_lt z x) ys (λ i x here. (let below = above i x here in grind (arith, nat_tests)))
beyond-last z (x ∷ xs) ys above rises =
    let later : (i y : ℕ) → slice_get (xs ++ ys) i ≡ Some y → x < y = λ i y here. rises x y (0, suc i, omega arith, refl, here) in
    let most : x ≤ last_of x xs = last-above x x xs (omega arith) (λ i y here. later i y (At-front xs ys i y here)) in
    let not-beyond : nat_lt (last_of x xs) x ≡ false = grind (arith, nat_tests) in
    rw not-beyond (beyond-last x xs ys later (λ a b apart. rises a b (Apart-later x (xs ++ ys) a b apart)))

-- what is in flight are the numbers sent beyond the last one taken
pub in_flight-beyond : (n : ℕ) (t : List Mark) (q p : ℕ) → WellFormed n t → filter (λ x. nat_lt (last_taken t q p) x) (filter_map (sent_on q p) t) ≡ in_flight t q p
in_flight-beyond n t q p obeys =
    ap (filter (λ x. nat_lt (last_taken t q p) x)) order ∙ beyond-last 0 (filter_map (taken_on q p) t) (in_flight t q p) positive (λ x y apart. sent-rises n t obeys q p x y (rw order apart))
  where
    order : filter_map (sent_on q p) t ≡ filter_map (taken_on q p) t ++ in_flight t q p
    order = fifo n t q p obeys

    positive : (i x : ℕ) → slice_get (filter_map (taken_on q p) t ++ in_flight t q p) i ≡ Some x → 0 < x
    positive i x here =
        let a = At-filter_map (sent_on q p) t i x (rw order here) in
        omega (arith, (obeys a.0 (Send q x p) (a.2 ∙ ap Some (is_sent q p x a.1 a.3))).3)

-- so each number in flight is beyond the last one taken
pub in_flight-later : (n : ℕ) (t : List Mark) (q p j x : ℕ) → WellFormed n t → slice_get (in_flight t q p) j ≡ Some x → last_taken t q p < x
in_flight-later n t q p j x obeys here = grind (arith, nat_tests, filter-passes, in_flight-beyond n t q p obeys)

module _ {S N : Type 0} {n f : ℕ} {r : Knowledge S N} (sound : IsSoundKnowledge n f r) where
  -- a message at a place of a channel has the number that the trace has there, goes from the one to the other, and both are up
  pub channel-at : (q p i : ℕ) (v : Message N) → slice_get (r.channel q p) i ≡ Some v
      → ((slice_get (in_flight r.trace q p) i ≡ Some v.ssn) × (v.from ≡ q) × (v.to ≡ p)) × (IsUp r q × IsUp r p)
  channel-at q p i v here =
      let ends = up_at_ends r sound.down.channels q p v (Contains-at (r.channel q p) i v here) in
      let place = map-At (λ ssn. Send q ssn p) (in_flight r.trace q p) i (send_mark v)
      (ap (λ (ms : List Mark). slice_get ms i) (sym (sound.channels q p ends.0 ends.1)) ∙ slice_get-map send_mark (r.channel q p) i ∙ ap (option_map send_mark) here) in
      let sent : Send q place.0 p ≡ send_mark v = place.2 in
      ((place.1 ∙ ap Some cc, cc, cc), ends)

  -- so it is in flight from the one to the other
  pub flight_at : (q p i : ℕ) (v : Message N) → slice_get (r.channel q p) i ≡ Some v → IsInFlight r v × (v.from ≡ q) × (v.to ≡ p)
  flight_at q p i v here = search (arith, channel-at, Contains-at)

  -- a message in flight was sent, from one member of the group to another
  pub flight_sent : (v : Message N) → IsInFlight r v → Has r.trace (send_mark v)
  flight_sent v flies = in_flight-sent r.trace v.from v.ssn v.to flies.0 (channel-at v.from v.to flies.0 v (Contains-place (r.channel v.from v.to) v flies)).0.0

  pub flight_ends : (v : Message N) → IsInFlight r v → (v.from < n) × (v.to < n) × (v.from ≢ v.to)
  flight_ends v flies = (let may = sound.rules (flight_sent v flies).0 (send_mark v) (flight_sent v flies).1 in (may.0, may.1, may.2))

  -- the receipt of the front of a channel may come next, where the trace has room
  pub front_may_follow : (v : Message N) → slice_get (r.channel v.from v.to) 0 ≡ Some v → length r.trace < 8192
      → MayFollow n r.trace (Receipt v.to (receipts_of r.trace v.to + 1) v.from v.ssn)
  front_may_follow v front room = grind (arith, nat_tests, flight_ends v (Contains-at (r.channel v.from v.to) 0 v front), channel-at)

module _ {N : Type 0} where
  -- the messages made between two members, by their marks
  messages_between : (made : List (Message N)) (q p : ℕ) → map send_mark (between q p made) ≡ map (λ ssn. Send q ssn p) (filter_map (sent_on q p) (map send_mark made))
  messages_between [] q p = refl
  messages_between (x ∷ made) q p = grind (arith, nat_tests, messages_between made q p)

  -- the trace has messages that are sent last in flight
  in_flight-made : (n : ℕ) (t : List Mark) (made : List (Message N)) (q p : ℕ) → WellFormed n (t ++ map send_mark made)
      → in_flight (t ++ map send_mark made) q p ≡ in_flight t q p ++ filter_map (sent_on q p) (map send_mark made)
  in_flight-made n t [] q p obeys = rw (append-nil t, append-nil (in_flight t q p)) refl
  in_flight-made n t (x ∷ made) q p obeys =
      let one = in_flight-send n t (WellFormed-front n t _ obeys) x.from x.ssn x.to q p (MayFollow-seam n t (send_mark x) (map send_mark made) obeys) in
      (rw (append_assoc, one) at (in_flight-made n (t ++ send_mark x ∷ []) made q p (rw append_assoc obeys))) ∙ grind (arith, append_assoc)

  -- a delivery keeps a channel that matches the trace so
  pub channel-delivered : (n : ℕ) (t : List Mark) (v : Message N) (rsn : ℕ) (made channel : List (Message N)) (q p : ℕ)
      → WellFormed n (t ++ Receipt v.to rsn v.from v.ssn ∷ map send_mark made) → map send_mark channel ≡ map (λ ssn. Send q ssn p) (in_flight t q p)
      → map send_mark (taken_off v q p channel ++ between q p made) ≡ map (λ ssn. Send q ssn p) (in_flight (t ++ Receipt v.to rsn v.from v.ssn ∷ map send_mark made) q p)
  channel-delivered n t v rsn made channel q p obeys was =
      let R : Mark = Receipt v.to rsn v.from v.ssn in
      let one = in_flight-receipt n t (WellFormed-front n t _ obeys) v.to rsn v.from v.ssn q p (MayFollow-seam n t R (map send_mark made) obeys) in
      let now = rw (append_assoc, one) at (in_flight-made n (t ++ R ∷ []) made q p (rw append_assoc obeys)) in
      rw (now, map-append send_mark, map-append (λ ssn. Send q ssn p), messages_between made q p)
      grind (arith, was, drop-map send_mark 1 channel, drop-map (λ ssn. Send q ssn p) 1 (in_flight t q p))

  -- the log's numbers beyond one
  beyond-sent : (t : List (Event N)) (q p k : ℕ) → map (λ (s : ℕ × N). s.0) (logged_beyond (filter_map (logged_of q) t) p k)
      ≡ filter (λ x. nat_lt k x) (filter_map (sent_on q p) (map mark_of t))
  beyond-sent [] q p k = refl
  beyond-sent (e ∷ t) q p k = grind (arith, beyond-sent t q p k)

  -- what a member's log has beyond a number was sent with that note
  logged_beyond-sent : (t : List (Event N)) (q p k i : ℕ) (s : ℕ × N) → slice_get (logged_beyond (filter_map (logged_of q) t) p k) i ≡ Some s
      → (j : ℕ) × (to : ℕ) × (slice_get t j ≡ Some (event.Send q s.0 to s.1))
  logged_beyond-sent t q p k i s here =
      let a = map-At (λ (l : Logged N). (l.ssn, l.note)) (filter (λ l. l.to == p && nat_lt k l.ssn) (filter_map (logged_of q) t)) i s here in
      let b = At-filter (λ (l : Logged N). l.to == p && nat_lt k l.ssn) (filter_map (logged_of q) t) i a.0 a.1 in
      let c = At-filter_map (logged_of q) t b.0 a.0 b.1 in
      let is : c.1 ≡ event.Send q s.0 (destination_of (mark_of c.1)) s.1 = grind (arith, nat_tests, c.3, ap (λ (x : ℕ × N). x.0) a.2, ap (λ (x : ℕ × N). x.1) a.2) in
      (c.0, destination_of (mark_of c.1), c.2 ∙ ap Some is)

module _ {S N : Type 0} (next : Next S N) (r : GroupRecord S N) (lawful : Lawful next r.config.members r.config.starts r.trace) (q p : ℕ) (sender : IsFold next r q) (receiver : IsFold next r p) (below : q < 16) where
  the-log : (member r q).log ≡ filter_map (logged_of q) r.trace
  the-log = ap (λ (x : Progress S N). x.log) sender.progress ∙ log-sends lawful q

  -- the log has beyond the last message taken exactly what is in flight
  pub beyond-flight : map (λ (s : ℕ × N). s.0) (logged_beyond (member r q).log p (last_from (member r p) q)) ≡ in_flight (marks r) q p
  beyond-flight = rw (the-log, receiver.last q below) (beyond-sent r.trace q p (last_taken (marks r) q p) ∙ in_flight-beyond r.config.members (marks r) q p lawful.well_formed)

  resent-marks : (carried : List Entry) (sends : List (ℕ × N)) → map send_mark (resent q p carried sends) ≡ map (λ ssn. Send q ssn p) (map (λ (s : ℕ × N). s.0) sends)
  resent-marks carried [] = refl
  resent-marks carried (s ∷ sends) = ap (λ (ms : List Mark). Send q s.0 p ∷ ms) (resent-marks carried sends)

  note-resent : (v : Message N) → Contains (resent_to r.config.f q p (member r q) (member r p)) v → note_of r.trace v.from v.ssn ≡ Some v.note
  note-resent v among =
      let m = Contains-changed _ (logged_beyond (member r q).log p (last_from (member r p) q)) v among in
      let here = subst (λ (log : List (Logged N)). slice_get (logged_beyond log p (last_from (member r p) q)) m.1.0 ≡ Some m.0) the-log (Contains-place _ m.0 m.1) in
      let sent = logged_beyond-sent r.trace q p (last_from (member r p) q) m.1.0 m.0 here in
      let noted = sent-noted r.config.members r.trace lawful.well_formed sent.0 q m.0.0 sent.1 m.0.1 sent.2 in
      subst (λ (x : Message N). note_of r.trace x.from x.ssn ≡ Some x.note) m.2 noted

  -- a channel that has what the sender sends again is made again
  pub made-again : channel r q p ≡ resent_to r.config.f q p (member r q) (member r p) → IsMadeAgain r q p
  made-again is = record {
    sends = grind (arith, nat_tests, resent-marks, beyond-flight);
    notes = λ v among. note-resent v (rw is at among);
    carried = λ v among. sym (ap (λ (x : Message N). x.carried) (Contains-changed _ _ v (rw is at among)).2);
  }

-- nothing is in flight but between members
pub in_flight-outside : (n : ℕ) (t : List Mark) (q p : ℕ) → WellFormed n t → (n ≤ q) ⊎ (n ≤ p) → in_flight t q p ≡ []
in_flight-outside n t q p obeys out = at (in_flight t q p) refl where
  at : (xs : List ℕ) → in_flight t q p ≡ xs → in_flight t q p ≡ []
  at [] is = is
  at (x ∷ xs) is =
      let sent = in_flight-sent t q x p 0 (ap (λ (ys : List ℕ). slice_get ys 0) is) in
      let may = obeys sent.0 (Send q x p) sent.1 in
      absurd (omega (arith, out, may.0, may.1))

-- and there is no channel but between them, so one is made again if it is where it is between members
pub made-again-if : {S N : Type 0} → (r : GroupRecord S N) (q p : ℕ) → WellFormed r.config.members (marks r) → HasChannels r.config.members r.channels
    → (q < r.config.members → p < r.config.members → IsMadeAgain r q p) → IsMadeAgain r q p
made-again-if r q p obeys shape inside = elim (cases_lt q r.config.members) [
  | inr past ↦ outside (inl past)
  | inl below ↦ elim (cases_lt p r.config.members) [ inr past ↦ outside (inr past) | inl below_p ↦ inside below below_p ]
]
  where
    outside : (r.config.members ≤ q) ⊎ (r.config.members ≤ p) → IsMadeAgain r q p
    outside out =
        let none : channel r q p ≡ [] = grind (arith, shape.senders, shape.receivers q, get_or_past r.channels q [], get_or_past (get_or r.channels q []) p []) in
        record {
          sends = ap (map send_mark) none ∙ sym (ap (map (λ ssn. Send q ssn p)) (in_flight-outside r.config.members (marks r) q p obeys out));
          notes = λ v among. absurd (Contains-none v (rw none at among));
          carried = λ v among. absurd (Contains-none v (rw none at among));
        }

-- messages with these numbers, by their sends
numbers_of : {N : Type 0} → (q p : ℕ) (vs : List (Message N)) (ssns : List ℕ) → map send_mark vs ≡ map (λ ssn. Send q ssn p) ssns → map (λ v. v.ssn) vs ≡ ssns
numbers_of q p [] [] is = refl
numbers_of q p [] (ssn ∷ ssns) is = absurd cc
numbers_of q p (v ∷ vs) [] is = absurd cc
numbers_of q p (v ∷ vs) (ssn ∷ ssns) is = (let rest = numbers_of q p vs ssns (cc) in cc)

pub first_in_first_out : (S N : Type 0) → OfSound S N (λ r. (q p : ℕ) → IsFirstInFirstOut r q p)
first_in_first_out S N next r sound q p = record {
  received = fifo r.config.members (marks r) q p sound.lawful.well_formed;
  others = λ up_q up_p. numbers_of q p (channel r q p) (in_flight (marks r) q p) (sound.causes.channels q p up_q up_p);
}
