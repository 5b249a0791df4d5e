-- A delivery keeps a group sound.
use Rattle.fbl_law.proofs.Common.{◌≡◌, ◌≢◌, ℕ, suc, ◌+◌, ◌<◌, ◌≤◌, ◌==◌, List, [], ◌∷◌, ◌++◌, length, map, inl, inr, Some, slice_get, refl, sym, ap, ◌∙◌, arith, length-append, length-map}
use Rattle.fbl_law.proofs.Common.{filter_map, cases_eq, map-append, length-set, get_or-set_same, get_or-set_other, filter-append, filter_map-append, All, Contains-append_cases, Determinant, Event}
use Rattle.fbl_law.proofs.Common.{mark_of, determinant_of, receipt_of, Next, Lawful, note_of, At-front, eqb-self, piggybacked, Message, receipts_of, MemberRecord, blank, IsInFlight, IsUp}
use Rattle.fbl_law.proofs.Common.{next_determinant, is_on, between, taken_off, GroupRecord, member, member_checkpoint, channel, marks, knowledge, receipts, IsFold, IsReplayed, IsSound, receipts_at}
use Rattle.fbl_law.proofs.Common.{step_events, lawful_deliver, Has-append, Precedes-within, Precedes-entered, At-seam, contains-union, note_of-front, IsDelivery, sends_of, messages_from, step_of}
use Rattle.fbl_law.proofs.Common.{receiver, made, delivery_events, SendsWell, nat_tests, IsOnce, ◌⊎◌, subst, zero, ◌&&◌, Contains, cases_Bool, contains-insert_same, Mark, member_of, send_of, Has}
use Rattle.fbl_law.proofs.Common.{Precedes, Has-last, Entry, Includes, Store, in_table, in_message, in_checkpoint, owner, IsThere, Owes, send_mark, Names, Holds, IsHolder, IsTrueEntry, NamesCauses}
use Rattle.fbl_law.proofs.Common.{IsSoundKnowledge, IsStable, learned, Precedes-front, ◌↔◌, held_by, All-contains, All-push, map-At, Send, WellFormed, fresh}
use Rattle.std.specs.FinSet as sets
use Rattle.fbl_trace.specs.declared.trace.Event.TheVariants as event
use Rattle.std.proofs.Common.{append-nil}
use Rattle.fbl_law.proofs.Lists.{Contains-at, Contains-from_filter, At-behind, Contains-none, Contains-there}
use Rattle.fbl_law.proofs.Safe.{never_both, up_if_none, nobody_down_empty, Includes-insert_cases, Names-table, learned-keeps, All-from, once_noted}
use Rattle.fbl_law.proofs.Channels.{front_may_follow, flight_sent, channel-delivered}
use Rattle.fbl_law.proofs.ReplayedRecords.{sent-noted, replayed-kept, replayed-step, fold-replayed, fold-received, replayed-fold, log-short}
use Rattle.fbl_law.proofs.Promises.{up_state, received_counted, log_counted, receipt_is_new, new_not_held, new_not_carried}
use Rattle.fbl_law.proofs.Receipts.{disjoint, added-later, length-receipts_at}
use Rattle.fbl_law.proofs.Keeping.{IsStable-kept, KeepsKnowledge, IsSoundAt, NamesCauses-kept, IsTrueEntry-kept, sound_kept, sound_passed, checkpoint_kept, sound_after}

module _ {N : Type 0} where
  pub length-step_events : (p before : ℕ) (sends : List (ℕ × N)) → length (step_events p before sends) ≡ length sends
  length-step_events p before [] = refl
  length-step_events p before (s ∷ sends) = ap suc (length-step_events p (before + 1) sends)

  -- a step's sends are no receipts
  no_receipts : (p before : ℕ) (sends : List (ℕ × N)) → filter_map determinant_of (map mark_of (step_events p before sends)) ≡ []
  no_receipts p before [] = refl
  no_receipts p before (s ∷ sends) = no_receipts p (before + 1) sends

  -- what is left of a channel was in it
  pub taken_off-was : (v : Message N) (q p : ℕ) (xs : List (Message N)) (x : Message N) → Contains (taken_off v q p xs) x → Contains xs x
  taken_off-was v q p [] x h = elim (cases_Bool (v.from == q && v.to == p)) [ inl is ↦ rw is at h | inr is ↦ rw is at h ]
  taken_off-was v q p (y ∷ xs) x h = elim (cases_Bool (v.from == q && v.to == p)) [ inl is ↦ Contains-there y xs x (rw is at h) | inr is ↦ rw is at h ]

  -- the events of a step are the sends of its messages
  pub marks_made : (p before : ℕ) (carried : List Entry) (sends : List (ℕ × N)) → map mark_of (step_events p before sends) ≡ map send_mark (messages_from p before carried sends)
  marks_made p before carried [] = refl
  marks_made p before carried (s ∷ sends) = ap (λ ms. Send p (before + 1) s.0 ∷ ms) (marks_made p (before + 1) carried sends)

  -- each message made is of the member, carries what it passes on, and is sent by an event
  pub made_event : (p before : ℕ) (carried : List Entry) (sends : List (ℕ × N)) (x : Message N) → Contains (messages_from p before carried sends) x
      → (x.from ≡ p) × (x.carried ≡ carried) × ((i : ℕ) × (slice_get (step_events p before sends) i ≡ Some (event.Send x.from x.ssn x.to x.note)))
  made_event p before carried [] x among = absurd (Contains-none x among)
  made_event p before carried (s ∷ sends) x (zero, within, here) = (cc, cc, (0, cc))
  made_event p before carried (s ∷ sends) x (suc k, within, here) = let r = made_event p (before + 1) carried sends x (k, omega arith, here) in (r.0, r.1, (suc r.2.0, r.2.1))

module _ {S N : Type 0} (next : Next S N) (old new : GroupRecord S N) (v : Message N) (well : SendsWell next) (s : IsDelivery next old new v) (sound : IsSound next old) where
  abbrev n : ℕ
  n = old.config.members

  abbrev f : ℕ
  f = old.config.f

  abbrev was : MemberRecord S N
  was = member old v.to

  abbrev sends : List (ℕ × N)
  sends = (step_of next old v).sends.items

  abbrev added : List (Event N)
  added = delivery_events next old v

  was_up : (m : ℕ) → IsUp (knowledge old) m
  was_up = up_if_none s.nobody_down

  nobody_down : new.down ≡ sets.empty
  nobody_down = s.down ∙ s.nobody_down

  room : length old.trace + 1 + length sends ≤ 8192
  room = omega (arith, ap length s.trace, length-append old.trace added, length-step_events v.to (length was.log) sends, s.room, sound.config.limit.1)

  flies : IsInFlight (knowledge old) v
  flies = Contains-at (channel old v.from v.to) 0 v s.front

  noted : note_of old.trace v.from v.ssn ≡ Some v.note
  noted = sound.notes v flies

  allowed : All (λ (x : ℕ × N). (x.0 < n) × (x.0 ≢ v.to)) sends
  allowed = (well v.to n was.state v.note sound.config.members.0 s.to_member).0

  -- the trace counts the receiver's receipts and sends as its record does
  counts : (was.received ≡ receipts_of (marks old) v.to) × (length was.log ≡ sends_of (marks old) v.to)
  counts = (received_counted next old sound v.to s.to_member (was_up v.to), log_counted next old sound v.to s.to_member (was_up v.to))

  is_lawful : Lawful next n old.config.starts new.trace
  is_lawful =
      rw (s.trace, counts.0, counts.1)
      (lawful_deliver next n old.config.starts old.trace v.to (receipts_of (marks old) v.to + 1) v.from v.ssn v.note sends sound.lawful
      (front_may_follow sound.causes v s.front (omega (arith, room, length-map old.trace mark_of))) noted
      (ap (λ (k : S). (next.step v.to n k v.note).sends.items) (up_state next old sound v.to s.to_member (was_up v.to)))
      allowed room)

  marks_split : marks new ≡ marks old ++ map mark_of added
  marks_split = rw s.trace (map-append mark_of old.trace added)

  pub receiver_now : member new v.to ≡ receiver next old v
  receiver_now = rw s.members (get_or-set_same old.members v.to (receiver next old v) (blank new.outside) (omega (arith, s.to_member, sound.members)))

  pub other_now : (m : ℕ) → m ≢ v.to → member new m ≡ member old m
  other_now m other = rw (s.members, s.outside) (get_or-set_other old.members v.to m (receiver next old v) (blank old.outside) other)

  abbrev own : Determinant
  own = next_determinant v.to was v.from v.ssn

  -- the marks of the events added: the receipt, and the sends of the messages made
  abbrev added_marks : List Mark
  added_marks = receipt_of own ∷ map send_mark (made next old v)

  trace_now : marks new ≡ marks old ++ added_marks
  trace_now = rw (marks_split, marks_made v.to (length was.log) (piggybacked f (receiver next old v).table) sends) refl

  obeys : WellFormed n (marks old ++ added_marks)
  obeys = rw trace_now at is_lawful.well_formed

  up : (m : ℕ) → IsUp (knowledge new) m
  up = up_if_none nobody_down

  -- what the receiver has now
  receiver_names : (d : Determinant) → Names (member new v.to).table d ↔ (Names was.table d ⊎ (Names v.carried d ⊎ (own ≡ d)))
  receiver_names d = rw receiver_now (Names-table v.to was.table v.carried own d)

  Names-delivered : (d : Determinant) (m : ℕ) → Names (member old m).table d → Names (member new m).table d
  Names-delivered d m named =
      elim (cases_eq m v.to) [
        | inl same ↦ rw same ((receiver_names d).1 (inl (rw same at named)))
        | inr other ↦ rw (other_now m other) named
      ]

  Has-cases : (e : Mark) → Has (marks new) e → Has (marks old) e ⊎ Has added_marks e
  Has-cases e there = Has-append (marks old) added_marks e (rw trace_now at there)

  -- the events that were added
  apart : (e : Mark) → Has added_marks e → ¬ (Has (marks old) e)
  apart = disjoint n (marks old) added_marks obeys

  held : (d : Determinant) (m : ℕ) → IsHolder (knowledge old) d m → Holds (knowledge new) d m
  held d m holder = elim holder [ inl holds ↦ (up m, Names-delivered d m holds.1) | inr was_down ↦ never_both old.down m was_down.0 (was_up m) ]

  keeps : KeepsKnowledge n f (knowledge old) (knowledge new)
  keeps = record {
    rules = is_lawful.well_formed;
    down = nobody_down_empty f (knowledge new) nobody_down;
    channels = λ q p up_q up_p.
        rw (s.channels q p, trace_now) (channel-delivered n (marks old) v own.rsn (made next old v) (channel old q p) q p obeys (sound.causes.channels q p (was_up q) (was_up p)));
    held = λ d m up_m. held d m;
    left = λ b there recorded. rw trace_now (there.0, At-front (marks old) added_marks there.0 b there.1);
    paths = λ there path. Precedes-within (marks old) added_marks apart there (rw trace_now at path);
  }

  pub delivery_keeps_stable : (d : Determinant) → IsStable f (knowledge old) d → IsStable f (knowledge new) d
  delivery_keeps_stable = IsStable-kept keeps sound.causes

  -- the new table's entries are true
  abbrev IsGood : Entry → Type 0
  IsGood e = IsTrueEntry (knowledge new) e × Includes e.known v.to

  still : (e : Entry) (m : ℕ) → Includes e.known m → IsTrueEntry (knowledge old) e → IsTrueEntry (knowledge new) e
  still e m knows fact = IsTrueEntry-kept keeps sound.causes e m (fact.1 m knows) (inl (m, held e.det m (fact.1 m knows))) fact

  good_table : All IsGood (member new v.to).table
  good_table =
      rw receiver_now (All-push IsGood (learned v.to was.table v.carried) _ (learned-keeps IsGood
      (λ x e q r same. let any = contains-union x.known e.known in ((q.0.0, λ m h. elim ((any m).0 h) [ inl here ↦ q.0.1 m here | inr there ↦ rw same (r.0.1 m there) ]), (any v.to).1 (inl q.1)))
      v.to was.table v.carried
      (All-from IsGood was.table (λ x h. let fact = sound.causes.truth (in_table v.to) x (was_up v.to) h in (still x v.to fact.1 fact.0, fact.1)))
      (All-from (λ e. IsGood (held_by v.to e)) v.carried (λ e h. let fact = sound.causes.truth (in_message v) e flies h in let now = still e v.from fact.1 fact.0 in (
        (now.0, λ m k. elim (Includes-insert_cases e.known v.to m k) [ inl self ↦ rw self (inl (up v.to, (receiver_names e.det).1 (inr (inl (e, h, refl))))) | inr was_known ↦ now.1 m was_known ]),
        contains-insert_same e.known v.to,
      ))))
      ((rw trace_now (length (marks old), At-seam (marks old) (receipt_of own) _), λ m h. elim (Includes-insert_cases sets.empty v.to m h) [ inl self ↦ rw self (inl (up v.to, (receiver_names own).1 (inr (inr refl)))) | inr none ↦ never_both sets.empty m none (up_if_none refl m) ]), contains-insert_same sets.empty v.to))

  -- each is the receiver's and receives nothing but the message, and the one receipt is the one delivered
  abbrev IsOurs : Mark → Type 0
  IsOurs e = (member_of e ≡ v.to) × ((a : Mark) → send_of e ≡ Some a → send_mark v ≡ a) × ((d : Determinant) → determinant_of e ≡ Some d → own ≡ d)

  ours : (e : Mark) → Has added_marks e → IsOurs e
  ours e (zero, is) = (let same : receipt_of own ≡ e = cc in subst IsOurs same (refl, λ a h. cc, λ d h. cc))
  ours e (suc i, is) =
      let x = map-At send_mark (made next old v) i e is in
      let from = (made_event v.to (length was.log) _ sends x.0 (Contains-at (made next old v) i x.0 x.1)).0 in
      subst IsOurs x.2 (from, λ a h. absurd cc, λ d h. absurd cc)

  -- the receiver's table names the causes of what it or the message named the causes of
  caught : (b : Mark) → Has (marks old) b → NamesCauses f (knowledge old) was.table b ⊎ NamesCauses f (knowledge old) v.carried b → NamesCauses f (knowledge new) (member new v.to).table b
  caught b there either d before =
      let kept = λ (es : List Entry). NamesCauses-kept keeps sound.causes es b there in
      grind (arith, nat_tests, kept was.table, kept v.carried, Names-delivered d v.to, receiver_names d)

  -- an event that leads to one of those added is of the receiver, or it is the send of the message
  abbrev IsEntry : Mark → Type 0
  IsEntry c = (member_of c ≡ v.to) ⊎ (send_mark v ≡ c)

  -- and of the events added
  mine : (b : Mark) → Has added_marks b → NamesCauses f (knowledge new) (member new v.to).table b
  mine b new_one d before =
      elim (Precedes-entered (marks old) added_marks apart IsEntry (λ c e among leads. grind (arith, nat_tests, ours e among, leads)) new_one (rw trace_now at before)) [
        | inl late ↦ inl (subst (λ (c : Determinant). Names (member new v.to).table c) ((ours (receipt_of d) late).2 d refl) ((receiver_names own).1 (inr (inr refl))))
        | inr entered ↦
            let whole : Precedes (marks new) (receipt_of d) entered.0 = rw trace_now (Precedes-front (marks old) added_marks entered.1) in
            elim entered.2 [
              | inl event ↦ caught entered.0 (Has-last entered.1) (inl (sound.causes.closed.events (in_table v.to) entered.0 (was_up v.to) event)) d whole
              | inr first ↦ caught entered.0 (Has-last entered.1) (inr (sound.causes.closed.events (in_message v) entered.0 flies first)) d whole
            ]
      ]

  either : (b : Mark) → (Has (marks old) b → NamesCauses f (knowledge new) (member new v.to).table b) → NamesCauses f (knowledge new) (member new v.to).table b
  either b of_old d before = elim (Has-cases b (Has-last before)) [ inl there ↦ of_old there d before | inr new_one ↦ mine b new_one d before ]

  good_receiver : IsSoundAt f (knowledge new) (in_table v.to)
  good_receiver = record {
    truth = λ e among. All-contains IsGood (member new v.to).table e good_table among;
    events = λ b at_to. either b (λ there. caught b there (inl (sound.causes.closed.events (in_table v.to) b (was_up v.to) at_to)));
    named = λ c named. either (receipt_of c) (λ there. elim ((receiver_names c).0 named) [
      | inl had_it ↦ caught (receipt_of c) there (inl (sound.causes.closed.named (in_table v.to) c (was_up v.to) had_it))
      | inr (inl carried) ↦ caught (receipt_of c) there (inr (sound.causes.closed.named (in_message v) c flies carried))
      | inr (inr same) ↦ mine (receipt_of c) (0, ap (λ (x : Determinant). Some (receipt_of x)) same)
    ]);
  }

  -- the trace counts no fewer receipts and sends than a checkpoint has
  counted : (m : ℕ) → m < n → ((member_checkpoint old m).received ≤ receipts_of (marks old) m) × (length (member_checkpoint old m).log ≤ sends_of (marks old) m)
  counted m below = (omega (arith, (sound.saved m below).within, length-receipts_at (marks old) m), log-short sound.lawful (sound.saved m below))

  -- no other store owes the causes of an event that was added
  still_owes : (k : Store N) → IsThere (knowledge old) k → ¬ (k ≡ in_table v.to) → (b : Mark) → Has (marks new) b → Owes (knowledge old) k b → Has (marks old) b × Owes (knowledge old) k b
  still_owes k there other b has owes = elim (Has-cases b has) [ inl was_there ↦ (was_there, owes) | inr fresh ↦ absurd (none k there other b fresh owes) ] where
    none : (k : Store N) → IsThere (knowledge old) k → ¬ (k ≡ in_table v.to) → (b : Mark) → Has added_marks b → ¬ (Owes (knowledge old) k b)
    none (in_table m) there other b fresh at_m = other (ap in_table (sym at_m ∙ (ours b fresh).0))
    none (in_message x) there other b fresh is = apart b fresh (subst (Has (marks old)) is (flight_sent sound.causes x there))
    none (in_checkpoint m) there other b fresh reached = added-later n (knowledge old) added_marks obeys counted b fresh (rw reached.0 reached.1)

  -- a message in flight was in its channel, or is one of those made
  in_flight_cases : (x : Message N) → IsInFlight (knowledge new) x → IsInFlight (knowledge old) x ⊎ Contains (made next old v) x
  in_flight_cases x flying =
      let cases = Contains-append_cases (taken_off v x.from x.to (channel old x.from x.to)) (between x.from x.to (made next old v)) x in
      grind (arith, nat_tests, cases, s.channels x.from x.to, taken_off-was v x.from x.to (channel old x.from x.to) x, Contains-from_filter (is_on x.from x.to) (made next old v) x)

  good : (k : Store N) → IsThere (knowledge new) k → IsSoundAt f (knowledge new) k
  good (in_table m) there = elim (cases_eq m v.to) [
    | inl same ↦ rw same good_receiver
    | inr other ↦
        let is = ap (λ (x : MemberRecord S N). x.table) (other_now m other) in
        sound_kept keeps sound.causes (in_table m) there (was_up m, is, still_owes (in_table m) (was_up m) (λ same. other (ap owner same)))
  ]
  good (in_message x) flying = elim (in_flight_cases x flying) [
    | inl flew ↦ sound_kept keeps sound.causes (in_message x) flying (flew, refl, still_owes (in_message x) flew (λ same. cc))
    | inr new_one ↦
        let is = made_event v.to (length was.log) _ sends x new_one in
        let carried : x.carried ≡ piggybacked f (member new v.to).table = rw receiver_now is.1 in
        sound_passed f (knowledge new) x (rw is.0 good_receiver) (rw is.0 carried)
  ]
  good (in_checkpoint m) there =
      sound_kept keeps sound.causes (in_checkpoint m) tt (tt, rw (s.checkpoints, s.outside) refl, λ b has owes. still_owes (in_checkpoint m) tt (λ same. cc) b has (rw (s.checkpoints, s.outside) at owes))

  knows : IsSoundKnowledge n f (knowledge new)
  knows = sound_after keeps sound.causes good (λ m. checkpoint_kept keeps sound.causes m (rw (s.checkpoints, s.outside) refl))

  pub receipts_now : receipts (marks new) ≡ receipts (marks old) ++ own ∷ []
  receipts_now = rw (marks_split, filter_map-append determinant_of (marks old) (map mark_of added), no_receipts v.to (length was.log) sends) refl

  -- who has replayed its first receipts of the trace before has replayed them of the new one
  grown : (m : ℕ) (x : MemberRecord S N) → IsReplayed next n old.config.starts old.trace m x → IsReplayed next n old.config.starts new.trace m x
  grown m x =
      replayed-kept next n old.config.starts old.trace new.trace m x sound.lawful.well_formed is_lawful.well_formed
      (λ q k y z was now. let kept : note_of new.trace q k ≡ Some y = rw s.trace (note_of-front old.trace added q k y was) in cc)
      (λ d there to within. rw marks_split (there.0, At-front (marks old) (map mark_of added) there.0 (receipt_of d) there.1))

  other_fold : (m : ℕ) → m < n → m ≢ v.to → IsFold next new m
  other_fold m below other = search (arith, was_up, receipts_now, filter-append, append-nil, replayed-fold, is_lawful, other_now, grown, fold-replayed, fold-received)

  own_fold : IsFold next new v.to
  own_fold =
      let fold_was = sound.folds v.to s.to_member (was_up v.to) in
      let count = fold-received sound.lawful.well_formed fold_was in
      let more : receipts_at (marks new) v.to ≡ receipts_at (marks old) v.to ++ own ∷ [] = rw (receipts_now, filter-append, eqb-self v.to) refl in
      let here : slice_get (receipts_at (marks new) v.to) was.received ≡ Some own = ap (slice_get (receipts_at (marks new) v.to)) count ∙ rw more (At-seam (receipts_at (marks old) v.to) own []) in
      let noted_now : note_of new.trace v.from v.ssn ≡ Some v.note = rw s.trace (note_of-front old.trace added v.from v.ssn v.note noted) in
      let replayed = replayed-step is_lawful.well_formed (grown v.to was (fold-replayed sound.lawful.well_formed fold_was)) here noted_now in
      replayed-fold (rw s.config is_lawful.well_formed) (rw (receiver_now, s.config) (assumption replayed))
      (rw receiver_now (omega (arith, count, ap length more, length-append (receipts_at (marks old) v.to) (own ∷ []))))

  own_distinct : IsOnce (receiver next old v).table
  own_distinct =
      once_noted v.to was.table v.carried own (sound.distinct v.to) (search (arith, new_not_held, receipt_is_new, was_up)) (search (arith, new_not_carried, flies, receipt_is_new, was_up))

  notes_kept : (x : Message N) → IsInFlight (knowledge new) x → note_of new.trace x.from x.ssn ≡ Some x.note
  notes_kept x flying =
      elim (in_flight_cases x flying) [
        | inl flew ↦ rw s.trace (note_of-front old.trace added x.from x.ssn x.note (sound.notes x flew))
        | inr new_one ↦
            let sent = made_event v.to (length was.log) _ sends x new_one in
            let place = At-behind old.trace added (suc sent.2.0) (event.Send x.from x.ssn x.to x.note) sent.2.1 in
            sent-noted n new.trace is_lawful.well_formed place.0 x.from x.ssn x.to x.note (rw s.trace place.2)
      ]

  pub group_delivery_keeps : IsSound next new
  group_delivery_keeps = record {
    config = rw s.config sound.config;
    members = rw (s.members, s.config) (length-set old.members v.to (receiver next old v) ∙ sound.members);
    checkpoints = rw (s.checkpoints, s.config) sound.checkpoints;
    saved = λ m below. rw (s.config, s.checkpoints, s.outside) (grown m (member_checkpoint old m) (sound.saved m (rw s.config at below)));
    down = λ q down. never_both new.down q down (up_if_none nobody_down q);
    lawful = rw s.config is_lawful;
    room = rw s.config s.room;
    causes = rw s.config knows;
    folds = λ m below up.
        let within : m < n = (rw s.config at below) in
        elim (cases_eq m v.to) [ inl same ↦ rw same own_fold | inr other ↦ other_fold m within other ];
    blanks = λ m below down. never_both new.down m down (up_if_none nobody_down m);
    distinct = λ m. elim (cases_eq m v.to) [ inl same ↦ rw (same, receiver_now) own_distinct | inr other ↦ rw (other_now m other) (sound.distinct m) ];
    shape = rw s.config s.shape;
    notes = notes_kept;
    counted = omega (arith, ap length receipts_now, length-append (receipts (marks old)) (own ∷ []), sound.counted, s.undone_ever, s.receipts_ever);
  }
