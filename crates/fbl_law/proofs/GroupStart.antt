-- A group in which nothing is received yet is sound.
use Rattle.fbl_law.proofs.Common.{Bool, ◌≡◌, ℕ, suc, ◌+◌, ◌<◌, ◌≤◌, ◌==◌, List, [], ◌∷◌, ◌++◌, length, get_or, map, Option, Some, None, slice_get, refl, sym, ap, ◌∙◌, arith, append_assoc}
use Rattle.fbl_law.proofs.Common.{length-append, Contains, filter, filter_map, length-map, map-append, take_all, get_or_past, filter_map-append, Start, Event, Mark, mark_of, determinant_of}
use Rattle.fbl_law.proofs.Common.{receipt_of, in_flight, sent_on, taken_on, sends_of, WellFormed, MayFollow, Next, Lawful, sent, action_of, actions_of, notes_of, start_of, starts_of, filter_map-At}
use Rattle.fbl_law.proofs.Common.{WellFormed-none, WellFormed-push, fresh, Message, MemberRecord, blank, send_mark, is_on, GroupRecord, channel, knowledge, receipts, IsSound, if◌then◌else◌, Send}
use Rattle.fbl_law.proofs.Common.{Settings, IsConfig, StartAllowed, notes_of-sent, IsGroupStart, start_events, message_of_send, At-filter_map, nat_tests, IsOnce-none, Entry, Has, Has-first}
use Rattle.fbl_law.proofs.Common.{IsSoundKnowledge, IsThere, NamesCauses, Store, entries, in_checkpoint, in_message, in_table}
use Rattle.fbl_trace.specs.declared.trace.Event.TheVariants as event
use Rattle.std.proofs.Common.{append-nil}
use Rattle.fbl_law.proofs.Common.{drop_all}
use Rattle.fbl_law.proofs.Channels.{fifo}
use Rattle.fbl_law.proofs.Lists.{Contains-from_filter, Contains-place, Contains-none}
use Rattle.fbl_law.proofs.Safe.{never_both, up_if_none, nobody_down_empty}
use Rattle.fbl_law.proofs.ReplayedRecords.{sent-noted, replayed-fresh, replayed-fold}

none_taken : (q p : ℕ) (t : List Mark) → filter_map determinant_of t ≡ [] → filter_map (taken_on q p) t ≡ []
none_taken q p [] e = refl
none_taken q p (x ∷ t) e = grind (arith, none_taken q p t)

module _ {N : Type 0} where
  -- the send of a start after the events so far
  abbrev send_of : List (Event N) → Start N → Event N
  send_of done s = event.Send s.from (sends_of (map mark_of done) s.from + 1) s.to s.note

  -- what a map that drops receipts gives of the starts' events
  pub starts_given : {Y : Type 0} (g : Event N → Option Y) (h : Start N → Option Y) → ((s : Start N) (k : ℕ) → g (event.Send s.from k s.to s.note) ≡ h s)
      → (done : List (Event N)) (ss : List (Start N)) → filter_map g (start_events done ss) ≡ filter_map g done ++ filter_map h ss
  starts_given g h is done [] = sym (append-nil (filter_map g done))
  starts_given g h is done (s ∷ ss) = search (arith, filter_map-append, append_assoc, starts_given g h is (done ++ send_of done s ∷ []) ss)

  filter_map-all : (ss : List (Start N)) → filter_map (λ s. Some s) ss ≡ ss
  filter_map-all [] = refl
  filter_map-all (s ∷ ss) = ap (λ ys. s ∷ ys) (filter_map-all ss)

  -- the starts are no receipts
  pub no_receipts : (done : List (Event N)) (ss : List (Start N)) → receipts (map mark_of (start_events done ss)) ≡ receipts (map mark_of done)
  no_receipts done [] = refl
  no_receipts done (s ∷ ss) = no_receipts (done ++ send_of done s ∷ []) ss ∙ rw (map-append, filter_map-append, append-nil) refl

  length-starts : (done : List (Event N)) (ss : List (Start N)) → length (start_events done ss) ≡ length done + length ss
  length-starts done [] = omega arith
  length-starts done (s ∷ ss) = omega (arith, length-starts (done ++ send_of done s ∷ []) ss, length-append done (send_of done s ∷ []))

  -- the starts obey the rules
  starts_obey : (n : ℕ) (allowed_note : N → Bool) (done : List (Event N)) (ss : List (Start N)) → WellFormed n (map mark_of done)
      → ((i : ℕ) (s : Start N) → slice_get ss i ≡ Some s → StartAllowed allowed_note n s) → length done + length ss ≤ 8192 → WellFormed n (map mark_of (start_events done ss))
  starts_obey n allowed_note done [] obeys allowed room = obeys
  starts_obey n allowed_note done (s ∷ ss) obeys allowed room =
      let here = allowed 0 s refl in
      let e : Mark = Send s.from (sends_of (map mark_of done) s.from + 1) s.to in
      let may : MayFollow n (map mark_of done) e = (here.0, here.1, here.2, refl, omega (arith, length-map done mark_of, room)) in
      let more : WellFormed n (map mark_of (done ++ send_of done s ∷ [])) = rw (map-append mark_of done (send_of done s ∷ [])) (WellFormed-push n (map mark_of done) e obeys may) in
      starts_obey n allowed_note (done ++ send_of done s ∷ []) ss more (λ i x at. allowed (suc i) x at) (omega (arith, length-append done (send_of done s ∷ []), room))

  -- the messages of the sends on a channel, by their marks
  marks_between : (q p : ℕ) (t : List (Event N)) → map send_mark (filter (is_on q p) (filter_map message_of_send t)) ≡ map (λ ssn. Send q ssn p) (filter_map (sent_on q p) (map mark_of t))
  marks_between q p [] = refl
  marks_between q p (e ∷ t) = grind (arith, nat_tests, marks_between q p t)

  -- each message of the sends is sent, and carries nothing
  message_sent : (t : List (Event N)) (v : Message N) → Contains (filter_map message_of_send t) v → (v.carried ≡ []) × ((i : ℕ) × (slice_get t i ≡ Some (event.Send v.from v.ssn v.to v.note)))
  message_sent t v among = grind (arith, nat_tests, At-filter_map message_of_send t among.0 v (Contains-place (filter_map message_of_send t) v among))

  sends_of_one : (m : ℕ) (ss : List (Start N)) → filter_map (λ s. if s.from == m then Some (sent (s.to, s.note)) else None) ss ≡ map sent (starts_of m ss)
  sends_of_one m [] = refl
  sends_of_one m (s ∷ ss) = grind (arith, sends_of_one m ss)

module _ {S N : Type 0} (next : Next S N) (config : Settings N) (r : GroupRecord S N) (is : IsConfig next.allowed config) (s : IsGroupStart next config r) where
  abbrev n : ℕ
  n = config.members

  abbrev events : List (Event N)
  events = start_events [] config.starts

  obeys : WellFormed n (map mark_of events)
  obeys = starts_obey n next.allowed [] config.starts (WellFormed-none n) is.starts (omega (arith, is.few_starts))

  acted : (m : ℕ) → actions_of events m ≡ map sent (starts_of m config.starts)
  acted m = starts_given (action_of events m) (λ s. if s.from == m then Some (sent (s.to, s.note)) else None) (λ s k. refl) [] config.starts ∙ sends_of_one m config.starts

  is_lawful : Lawful next n config.starts events
  is_lawful = record {
    well_formed = obeys;
    starts_first =
        ap (filter_map start_of) (take_all (length config.starts) events (omega (arith, length-starts [] config.starts)))
        ∙ starts_given start_of (λ s. Some s) (λ s k. refl) [] config.starts ∙ filter_map-all config.starts;
    responds = λ m. rw (ap notes_of (acted m) ∙ notes_of-sent (starts_of m config.starts), append-nil) (acted m);
    turns = rw (drop_all (length config.starts) events (omega (arith, length-starts [] config.starts))) tt;
  }

  unreceived : receipts (map mark_of events) ≡ []
  unreceived = no_receipts [] config.starts

  -- the tables of fresh members, and what is past them
  started : (xs : List (MemberRecord S N)) → length xs ≡ n → ((m : ℕ) → m < n → get_or xs m (blank r.outside) ≡ fresh (next.initial m n) m config.starts) → (m : ℕ) → (get_or xs m (blank r.outside)).table ≡ []
  started xs size each m = grind (arith, size, each m, get_or_past xs m (blank r.outside))

  among_starts : (v : Message N) → Contains (channel r v.from v.to) v → Contains (filter_map message_of_send r.trace) v
  among_starts v flies = Contains-from_filter (is_on v.from v.to) (filter_map message_of_send r.trace) v (rw (s.channels v.from v.to) at flies)

  -- no store has an entry, and no receipt is in the trace
  nothing : (k : Store N) (e : Entry) → IsThere (knowledge r) k → ¬ (Contains (entries (knowledge r) k) e)
  nothing (in_table m) e there among = Contains-none e (rw (started r.members s.size s.members m) at among)
  nothing (in_message v) e flies among = Contains-none e (rw (message_sent r.trace v (among_starts v flies)).0 at among)
  nothing (in_checkpoint m) e there among = Contains-none e (rw (started r.checkpoints s.checkpoints s.saved m) at among)

  no_causes : (es : List Entry) (b : Mark) → NamesCauses config.f (knowledge r) es b
  no_causes es b d before =
      let has : Has (map mark_of events) (receipt_of d) = rw s.trace at (Has-first before) in
      let place = filter_map-At determinant_of (map mark_of events) has.0 (receipt_of d) d has.1 refl in
      absurd (let none = rw unreceived at place.1 in cc)

  knows : IsSoundKnowledge n config.f (knowledge r)
  knows = record {
    rules = rw s.trace obeys;
    truth = λ k e there among. absurd (nothing k e there among);
    closed = record { events = λ k b there owes. no_causes (entries (knowledge r) k) b; named = λ k c there named. no_causes (entries (knowledge r) k) (receipt_of c) };
    channels = λ q p up_q up_p.
        let none = ap (λ (ks : List ℕ). ks ++ in_flight (map mark_of events) q p) (none_taken q p (map mark_of events) unreceived) in
        rw (s.channels q p, s.trace) (marks_between q p events ∙ ap (map (λ ssn. Send q ssn p)) (fifo n (map mark_of events) q p obeys ∙ none));
    down = nobody_down_empty config.f (knowledge r) s.nobody_down;
    checkpoints = λ m d up named. absurd (nothing (in_checkpoint m) named.0 tt named.1);
  }

  pub group_start_is_sound : IsSound next r
  group_start_is_sound = record {
    config = rw s.parameters is;
    members = rw s.parameters s.size;
    checkpoints = rw s.parameters s.checkpoints;
    saved = λ m below. rw (s.parameters, s.saved m (rw s.parameters at below)) (replayed-fresh next n config.starts r.trace m);
    distinct = λ m. rw (started r.members s.size s.members m) IsOnce-none;
    down = λ q down. never_both r.down q down (up_if_none s.nobody_down q);
    lawful = rw (s.parameters, s.trace) is_lawful;
    room = rw (s.parameters, s.trace) omega (arith, length-starts [] config.starts, is.room);
    causes = rw s.parameters knows;
    folds = λ m below up_m.
        let fresh_m = s.members m (rw s.parameters at below) in
        replayed-fold (rw (s.parameters, s.trace) obeys) (rw (fresh_m, s.parameters) (replayed-fresh next n config.starts r.trace m)) (rw (fresh_m, s.trace, unreceived) refl);
    blanks = λ m below down. never_both r.down m down (up_if_none s.nobody_down m);
    shape = rw s.parameters s.shape;
    notes = λ v flying.
        let sent_at = (message_sent r.trace v (among_starts v flying)).1 in
        sent-noted n r.trace (rw s.trace obeys) sent_at.0 v.from v.ssn v.to v.note sent_at.1;
    counted = rw (s.undone_ever, s.receipts_ever, s.trace, unreceived) refl;
  }
