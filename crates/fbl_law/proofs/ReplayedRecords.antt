-- The notes of a trace's messages, what the log of a fold has, and a member that replays its receipts one after the other.
use Rattle.fbl_law.proofs.Common.{one_send, ◌≡◌, ℕ, suc, ◌==◌, ◌&&◌, inl, inr, List, [], ◌∷◌, take, map, Some, slice_get, refl, ◌∙◌, arith, cases_Bool, nat_tests, slice_get-map, Event, Mark, At}
use Rattle.fbl_law.proofs.Common.{mark_of, Has, WellFormed, note_of, map-At, sent-note, ap, Bool, cond, count_by, eqb-self, is_send_of, nat_le, nat_lt, sum_by-cons, true, zero, ◌+◌, ◌<◌, ◌≤◌, ◌++◌}
use Rattle.fbl_law.proofs.Common.{length, drop, Option, None, sym, append_assoc, length-append, filter_map, fold, zero-add, cases_eq, map-append, take-append-drop, filter_map-append, Start}
use Rattle.fbl_law.proofs.Common.{is_receipt_of, sends_of, receipts_of, Next, Logged, Progress, Action, took, sent, numbered, starts_of, begun, advanced, after_notes, action_of, actions_of, notes_of}
use Rattle.fbl_law.proofs.Common.{responses, Lawful, sends-step, receipts-step, logged_note, length-numbered, received_notes, MemberRecord, IsReplayed, append-nil, fold-append, numbered-append}
use Rattle.fbl_law.proofs.Common.{take-more, progress_of, take-map, take_all, length-set, get_or-set_same, get_or-set_other, slice_get_within, Determinant, receipt_of, receipts-noted, fresh}
use Rattle.fbl_law.proofs.Common.{replayed_by, GroupRecord, member, marks, IsFold, receipts_at, fold_next}
use Rattle.fbl_trace.specs.declared.trace.Mark.TheVariants as mark
use Rattle.fbl_trace.specs.declared.trace.Event.TheVariants.{Send, Receipt}
use Rattle.fbl_law.proofs.Receipts.{MayFollow-seam, receipts_at-Has, Has-receipts_at, length-received_notes, note-at, last-from}
use Rattle.fbl_law.proofs.Lists.{some-at}

-- an event's number, one more than the count before it, is within the count of the first events exactly where it is one of these
pub number-front : (p : Mark → Bool) (u : List Mark) (i stop k : ℕ) (e : Mark) → At u i e → p e ≡ true → k ≡ count_by p (take i u) + 1 → nat_le k (count_by p (take stop u)) ≡ nat_lt i stop
number-front p [] i stop k e here passes number = absurd cc
number-front p (x ∷ u) zero zero k e here passes number = grind (arith, nat_tests)
number-front p (x ∷ u) zero (suc stop) k e here passes number = grind (arith, nat_tests, sum_by-cons (λ y. cond (p y) 1 0) x (take stop u))
number-front p (x ∷ u) (suc i) zero k e here passes number = grind (arith, nat_tests)
number-front p (x ∷ u) (suc i) (suc stop) k e here passes number =
    let first = λ (k : ℕ). sum_by-cons (λ y. cond (p y) 1 0) x (take k u) in
    grind (arith, nat_tests, number, first i, first stop, number-front p u i stop (count_by p (take i u) + 1) e here passes refl)

module _ {N : Type 0} where
  -- a note that the trace names was sent
  pub noted-sent : (t : List (Event N)) (q k : ℕ) (x : N) → note_of t q k ≡ Some x → (i : ℕ) × (to : ℕ) × (slice_get t i ≡ Some (Send q k to x))
  noted-sent [] q k x is = absurd cc
  noted-sent (Send q' k' to' x' ∷ t) q k x is = elim (cases_Bool (q' == q && k' == k)) [
    | inl own ↦ (0, to', grind (arith, nat_tests))
    | inr other ↦ let r = noted-sent t q k x (rw other at is) in (suc r.0, r.1, r.2)
  ]
  noted-sent (Receipt to' r q' k' ∷ t) q k x is = let r = noted-sent t q k x is in (suc r.0, r.1, r.2)

  -- the mark of an event stands at its place
  pub mark-at : (t : List (Event N)) (i : ℕ) (e : Event N) → slice_get t i ≡ Some e → At (map mark_of t) i (mark_of e)
  mark-at t i e here = slice_get-map mark_of t i ∙ (rw here refl)

  -- and the event at a mark's place has that mark
  pub send-at : (t : List (Event N)) (i q k to : ℕ) → At (map mark_of t) i (mark.Send q k to) → (x : N) × (slice_get t i ≡ Some (Send q k to x))
  send-at t i q k to here = search (arith, map-At)

  pub receipt-at : (t : List (Event N)) (i to r q k : ℕ) → At (map mark_of t) i (mark.Receipt to r q k) → slice_get t i ≡ Some (Receipt to r q k)
  receipt-at t i to r q k here = (let place = map-At mark_of t i (mark.Receipt to r q k) here in place.1 ∙ ap Some (grind (arith, place.2)))

  -- in a trace that obeys the rules a send's note is the one that its number names
  pub sent-noted : (n : ℕ) (t : List (Event N)) → WellFormed n (map mark_of t) → (i q k to : ℕ) (x : N) → slice_get t i ≡ Some (Send q k to x) → note_of t q k ≡ Some x
  sent-noted n t obeys i q k to x here =
      let some = sent-note t i q k to (mark-at t i (Send q k to x) here) in
      let first = noted-sent t q k some.0 some.1 in
      let e = one_send n (map mark_of t) obeys q k first.1 to first.0 i (mark-at t first.0 (Send q k first.1 some.0) first.2) (mark-at t i (Send q k to x) here) in
      cc (some.1, rw e at first.2)

  -- the sends among a member's actions
  abbrev pub sends_in : List (Action N) → List (ℕ × N)
  sends_in [] = []
  sends_in (took note ∷ actions) = sends_in actions
  sends_in (sent s ∷ actions) = s ∷ sends_in actions

  pub sends_in-append : (xs ys : List (Action N)) → sends_in (xs ++ ys) ≡ sends_in xs ++ sends_in ys
  sends_in-append [] ys = refl
  sends_in-append (a ∷ xs) ys = grind (arith, sends_in-append xs ys)

  pub sends_in-sent : (sends : List (ℕ × N)) → sends_in (map sent sends) ≡ sends
  sends_in-sent [] = refl
  sends_in-sent (s ∷ sends) = ap (λ (zs : List (ℕ × N)). s ∷ zs) (sends_in-sent sends)

  -- a log has each number from 1 to its length
  pub numbered-has : (before ssn : ℕ) (sends : List (ℕ × N)) → before < ssn → ssn ≤ before + length sends → (note : N) × (logged_note (numbered before sends) ssn ≡ Some note)
  numbered-has before ssn [] above within = absurd (omega arith)
  numbered-has before ssn (s ∷ sends) above within = elim (cases_eq (before + 1) ssn) [
    | inl same ↦ (s.1, grind (arith, nat_tests, same))
    | inr other ↦ let later = numbered-has (before + 1) ssn sends (omega arith) (omega (arith, within)) in (later.0, grind (arith, nat_tests, other, later.1))
  ]

  -- the send, as the member's log has it
  abbrev pub logged_of : ℕ → Event N → Option (Logged N)
  logged_of p (Send from ssn to note) = cond (from == p) (Some (record { ssn = ssn; to = to; note = note })) None
  logged_of p (Receipt to rsn from ssn) = None

  -- the sends of the rest of a trace that obeys the rules, numbered on
  log_from : (n p : ℕ) (all u rest : List (Event N)) → WellFormed n (map mark_of u ++ map mark_of rest)
      → numbered (sends_of (map mark_of u) p) (sends_in (filter_map (action_of all p) rest)) ≡ filter_map (logged_of p) rest
  log_from n p all u [] obeys = refl
  log_from n p all u (e ∷ rest) obeys =
      let may = MayFollow-seam n (map mark_of u) (mark_of e) (map mark_of rest) obeys in
      search (arith, may, log_from n p all (u ++ e ∷ []) rest, append_assoc, map-append mark_of u, sends-step (map mark_of u) (mark_of e) p)

  -- the log of a trace's sends names the note of each
  pub logged_note-trace : (t : List (Event N)) (p ssn : ℕ) → logged_note (filter_map (logged_of p) t) ssn ≡ note_of t p ssn
  logged_note-trace [] p ssn = refl
  logged_note-trace (e ∷ t) p ssn = grind (arith, logged_note-trace t p ssn)

  -- what the front of a log names, the log names
  logged_note-front : (xs ys : List (Logged N)) (ssn : ℕ) (note : N) → logged_note xs ssn ≡ Some note → logged_note (xs ++ ys) ssn ≡ Some note
  logged_note-front [] ys ssn note is = cc
  logged_note-front (l ∷ xs) ys ssn note is = grind (arith, logged_note-front xs ys ssn note)

  -- how many sends a member's actions have
  sends-count : (all u : List (Event N)) (p : ℕ) → length (sends_in (filter_map (action_of all p) u)) ≡ sends_of (map mark_of u) p
  sends-count all [] p = refl
  sends-count all (e ∷ u) p = grind (arith, sum_by-cons (λ y. cond (is_send_of p y) 1 0) (mark_of e) (map mark_of u), sends-count all u p)

  -- at most how many notes a member's actions have
  notes-count : (all u : List (Event N)) (p : ℕ) → length (notes_of (filter_map (action_of all p) u)) ≤ receipts_of (map mark_of u) p
  notes-count all [] p = omega arith
  notes-count all (e ∷ u) p = grind (arith, sum_by-cons (λ y. cond (is_receipt_of p y) 1 0) (mark_of e) (map mark_of u), notes-count all u p)

module _ {S N : Type 0} where
  -- the sends that a fold adds to the log
  pub log-fold : (next : Next S N) (p n : ℕ) (from : Progress S N) (notes : List N)
      → (fold (advanced next p n) from notes).log ≡ from.log ++ numbered (length from.log) (sends_in (responses next p n from.state notes))
  log-fold next p n from [] = sym (append-nil from.log)
  log-fold next p n from (note ∷ notes) =
      log-fold next p n (advanced next p n from note) notes
      ∙ simp (append_assoc, length-append, length-numbered, sends_in-append, sends_in-sent, numbered-append)

  pub received-fold : (next : Next S N) (p n : ℕ) (from : Progress S N) (notes : List N) → (fold (advanced next p n) from notes).received ≡ from.received + length notes
  received-fold next p n from [] = omega arith
  received-fold next p n from (note ∷ notes) = (let ih = received-fold next p n (advanced next p n from note) notes in omega (arith, ih))

  -- the log after the notes has the starts and then the responses
  pub log-after : (next : Next S N) (p n : ℕ) (starts : List (Start N)) (notes : List N)
      → (after_notes next p n starts notes).log ≡ numbered 0 (sends_in (map sent (starts_of p starts) ++ responses next p n (next.initial p n) notes))
  log-after next p n starts notes = search (arith, log-fold, zero-add, length-numbered, sends_in-append, sends_in-sent, numbered-append)

  -- in a lawful trace the log after all the member's notes has the member's sends
  pub log-sends : {next : Next S N} {n : ℕ} {starts : List (Start N)} {t : List (Event N)} (lawful : Lawful next n starts t) (p : ℕ)
      → (after_notes next p n starts (received_notes t p)).log ≡ filter_map (logged_of p) t
  log-sends {next} {n} {starts} {t} lawful p = rw (log-after next p n starts (received_notes t p), ← lawful.responds p) (log_from n p t [] t lawful.well_formed)

  -- the log after all notes is as long as the member's sends are many
  pub log-length : {next : Next S N} {n : ℕ} {starts : List (Start N)} {t : List (Event N)} (lawful : Lawful next n starts t) (p : ℕ)
      → length (after_notes next p n starts (received_notes t p)).log ≡ sends_of (map mark_of t) p
  log-length {next} {n} {starts} {t} lawful p =
      ap length (log-after next p n starts (received_notes t p)) ∙ length-numbered 0 _ ∙ rw (← lawful.responds p) (sends-count t t p)

  -- the sends of the first actions are among the responses to the notes taken in so far
  sends-by : (next : Next S N) (p n : ℕ) (state : S) (k : ℕ) (sends : List (ℕ × N)) (notes : List N) (xs ys : List (Action N))
      → xs ++ ys ≡ map sent sends ++ responses next p n state notes → length (notes_of xs) ≤ k
      → length (sends_in xs) ≤ length (sends_in (map sent sends ++ responses next p n state (take k notes)))
  sends-by next p n state k sends notes [] ys is few = omega arith
  sends-by next p n state zero [] (note ∷ notes) (took x ∷ xs) ys is few = absurd (omega arith)
  sends-by next p n state (suc k) [] (note ∷ notes) (took x ∷ xs) ys is few =
      sends-by next p n (next.step p n state note).state k (next.step p n state note).sends.items notes xs ys (cc) (omega (arith, few))
  sends-by next p n state k (s ∷ sends) notes (sent s' ∷ xs) ys is few = omega (arith, sends-by next p n state k sends notes xs ys (cc) few)
  sends-by _ _ _ _ _ _ _ _ _ is few = absurd cc

-- the log of a member that has replayed its first receipts of a lawful trace
module _ {S N : Type 0} {next : Next S N} {n : ℕ} {starts : List (Start N)} {t : List (Event N)} (lawful : Lawful next n starts t) {p : ℕ} {m : MemberRecord S N} (replayed : IsReplayed next n starts t p m) where
  -- with the rest it is the log after all the member's notes
  whole-log : (rest : List (Logged N)) × ((after_notes next p n starts (received_notes t p)).log ≡ m.log ++ rest)
  whole-log = search (arith, take-append-drop m.received (received_notes t p), fold-append (advanced next p n), replayed.progress, log-fold next p n (progress_of m))

  -- a message that it names has that note in the trace
  pub logged-noted : (ssn : ℕ) (note : N) → logged_note m.log ssn ≡ Some note → note_of t p ssn ≡ Some note
  logged-noted ssn note named = search (arith, logged_note-trace, log-sends, whole-log, logged_note-front)

  -- it is no longer than the member's sends are many
  pub log-short : length m.log ≤ sends_of (map mark_of t) p
  log-short = omega (arith, log-length lawful p, ap length whole-log.1, length-append m.log whole-log.0)

  -- and it has a send that comes after no more receipts than the member has replayed
  pub logged-by : (j ssn to : ℕ) (x : N) → slice_get t j ≡ Some (Send p ssn to x) → receipts_of (take j (map mark_of t)) p ≤ m.received
      → (note : N) × (logged_note m.log ssn ≡ Some note)
  logged-by j ssn to x here few =
      let e : Mark = mark.Send p ssn to in
      let at = mark-at t j (Send p ssn to x) here in
      let front = filter_map (action_of t p) (take (suc j) t) in
      let back = filter_map (action_of t p) (drop (suc j) t) in
      let cut : actions_of t p ≡ front ++ back = ap (filter_map (action_of t p)) (sym (take-append-drop (suc j) t)) ∙ filter_map-append (action_of t p) (take (suc j) t) _ in
      let grown : map mark_of (take (suc j) t) ≡ take j (map mark_of t) ++ e ∷ [] = rw (← take-map) (take-more (map mark_of t) j e at) in
      let sends : sends_of (map mark_of (take (suc j) t)) p ≡ sends_of (take j (map mark_of t)) p + 1 = rw grown (sends-step (take j (map mark_of t)) e p ∙ rw (eqb-self p) refl) in
      let receipts : receipts_of (map mark_of (take (suc j) t)) p ≡ receipts_of (take j (map mark_of t)) p + 0 = rw grown (receipts-step (take j (map mark_of t)) e p) in
      let taken : length (notes_of front) ≤ m.received = omega (arith, notes-count t (take (suc j) t) p, receipts, few) in
      let enough = sends-by next p n (next.initial p n) m.received (starts_of p starts) (received_notes t p) front back (sym cut ∙ lawful.responds p) taken in
      let number = (lawful.well_formed j e at).3 in
      rw (ap (λ (x : Progress S N). x.log) replayed.progress, log-after next p n starts (take m.received (received_notes t p)))
      (numbered-has 0 ssn _ (omega (arith, number)) (omega (arith, number, sends-count t (take (suc j) t) p, sends, enough)))

-- a member with as many receipts as the trace has of it has them all
pub all-taken : {N : Type 0} → (n : ℕ) (t : List (Event N)) (p k : ℕ) → WellFormed n (map mark_of t) → k ≡ length (receipts_at (map mark_of t) p)
    → (take k (received_notes t p) ≡ received_notes t p) × (take k (receipts_at (map mark_of t) p) ≡ receipts_at (map mark_of t) p)
all-taken n t p k obeys count = search (arith, take_all k (received_notes t p), length-received_notes n t p obeys, take_all k (receipts_at (map mark_of t) p))

module _ {S N : Type 0} where
  -- a fresh member has replayed nothing
  pub replayed-fresh : (next : Next S N) (n : ℕ) (starts : List (Start N)) (trace : List (Event N)) (p : ℕ) → IsReplayed next n starts trace p (fresh (next.initial p n) p starts)
  replayed-fresh next n starts trace p = grind (arith, nat_tests)

  -- a member that replays its next receipt in the trace, with the note of its message, has replayed one more
  pub replayed-step : {next : Next S N} {n : ℕ} {starts : List (Start N)} {trace : List (Event N)} {p : ℕ} {m : MemberRecord S N} {d : Determinant} {note : N}
      → WellFormed n (map mark_of trace) → IsReplayed next n starts trace p m
      → slice_get (receipts_at (map mark_of trace) p) m.received ≡ Some d → note_of trace d.from d.ssn ≡ Some note → IsReplayed next n starts trace p (replayed_by next p n m d note)
  replayed-step {next} {n} {starts} {trace} {p} {m} {d} {note} obeys replayed here noted = record {
    within = (let below = slice_get_within (receipts_at (map mark_of trace) p) m.received d here in omega (arith, below));
    progress =
        ap (λ (x : Progress S N). advanced next p n x note) replayed.progress
        ∙ sym (fold_next (advanced next p n) (begun (next.initial p n) p starts) (received_notes trace p) m.received note (note-at n trace p m.received d note obeys here noted));
    places = length-set m.last d.from d.ssn ∙ replayed.places;
    last = λ q below.
        grind (arith, nat_tests, get_or-set_same m.last d.from d.ssn 0, get_or-set_other m.last d.from q d.ssn 0, replayed.places, replayed.last q below)
        ∙ sym (fold_next (λ last (x : Determinant). cond (x.from == q) x.ssn last) 0 (receipts_at (map mark_of trace) p) m.received d here);
  }

  -- a member at the fold of its receipts has replayed them all
  pub fold-received : {next : Next S N} {r : GroupRecord S N} {m : ℕ} → WellFormed r.config.members (marks r) → IsFold next r m → (member r m).received ≡ length (receipts_at (marks r) m)
  fold-received {next} {r} {m} obeys fold' =
      let count = received-fold next m r.config.members (begun (next.initial m r.config.members) m r.config.starts) (received_notes r.trace m) in
      omega (arith, ap (λ (x : Progress S N). x.received) fold'.progress, count, length-received_notes r.config.members r.trace m obeys)

  pub fold-replayed : {next : Next S N} {r : GroupRecord S N} {m : ℕ} → WellFormed r.config.members (marks r) → IsFold next r m → IsReplayed next r.config.members r.config.starts r.trace m (member r m)
  fold-replayed {next} {r} {m} obeys fold' =
      let count = fold-received obeys fold' in
      let all = all-taken r.config.members r.trace m (member r m).received obeys count in
      record {
        within = omega (arith, count);
        progress = rw all.0 fold'.progress;
        places = fold'.places;
        last = λ q below. rw all.1 (fold'.last q below ∙ last-from q m 0 (marks r));
      }

  -- and the other way round
  pub replayed-fold : {next : Next S N} {r : GroupRecord S N} {m : ℕ} → WellFormed r.config.members (marks r)
      → IsReplayed next r.config.members r.config.starts r.trace m (member r m) → (member r m).received ≡ length (receipts_at (marks r) m) → IsFold next r m
  replayed-fold {next} {r} {m} obeys replayed count =
      let all = all-taken r.config.members r.trace m (member r m).received obeys count in
      record {
        progress = rw all.0 at replayed.progress;
        places = replayed.places;
        last = λ q below. rw all.1 at (replayed.last q below) ∙ sym (last-from q m 0 (marks r));
      }

  -- a member that has replayed its first receipts of a trace has replayed them of another trace that has them too, where the
  -- two agree on the notes
  pub replayed-kept : (next : Next S N) (n : ℕ) (starts : List (Start N)) (old new : List (Event N)) (p : ℕ) (m : MemberRecord S N) → WellFormed n (map mark_of old) → WellFormed n (map mark_of new)
      → ((q k : ℕ) (x y : N) → note_of old q k ≡ Some x → note_of new q k ≡ Some y → x ≡ y)
      → ((d : Determinant) → Has (map mark_of old) (receipt_of d) → d.to ≡ p → d.rsn ≤ m.received → Has (map mark_of new) (receipt_of d))
      → IsReplayed next n starts old p m → IsReplayed next n starts new p m
  replayed-kept next n starts old new p m obeys_old obeys_new agree stays replayed = record {
    within = (same m.received (omega arith)).0;
    progress = rw (same m.received (omega arith)).2 at replayed.progress;
    places = replayed.places;
    last = λ q below. rw (same m.received (omega arith)).1 at (replayed.last q below);
  }
    where
      noted : (t : List (Event N)) → WellFormed n (map mark_of t) → (j : ℕ) (d : Determinant) → slice_get (receipts_at (map mark_of t) p) j ≡ Some d
          → (x : N) × (note_of t d.from d.ssn ≡ Some x) × (slice_get (received_notes t p) j ≡ Some x)
      noted t obeys j d here =
          let has = receipts_at-Has n (map mark_of t) p j d obeys here in
          let note = receipts-noted n t obeys has.0.0 d.to d.rsn d.from d.ssn (receipt-at t has.0.0 d.to d.rsn d.from d.ssn has.0.1) in
          (note.0, note.1, note-at n t p j d note.0 obeys here note.1)

      same : (k : ℕ) → k ≤ m.received → (k ≤ length (receipts_at (map mark_of new) p)) × (take k (receipts_at (map mark_of old) p) ≡ take k (receipts_at (map mark_of new) p))
          × (take k (received_notes old p) ≡ take k (received_notes new p))
      same zero few = (omega arith, refl, refl)
      same (suc k) few =
          let before = same k (omega arith) in
          let d = some-at (receipts_at (map mark_of old) p) k (omega (arith, replayed.within, few)) in
          let has = receipts_at-Has n (map mark_of old) p k d.0 obeys_old d.1 in
          let here = Has-receipts_at n (map mark_of new) p k d.0 obeys_new (stays d.0 has.0 has.1 (omega (arith, has.2, few))) has.1 has.2 in
          let was = noted old obeys_old k d.0 d.1 in
          let now = noted new obeys_new k d.0 here in
          let note = agree d.0.from d.0.ssn was.0 now.0 was.1 now.1 in (
            slice_get_within (receipts_at (map mark_of new) p) k d.0 here,
            rw (take-more (receipts_at (map mark_of old) p) k d.0 d.1, take-more (receipts_at (map mark_of new) p) k d.0 here, before.1),
            rw (take-more (received_notes old p) k now.0 (was.2 ∙ ap Some note), take-more (received_notes new p) k now.0 now.2, before.2),
          )
