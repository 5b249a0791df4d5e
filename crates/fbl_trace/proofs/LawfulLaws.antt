-- Folds over notes, and that a delivery keeps a trace lawful.
use Rattle.fbl_trace.proofs.Common.{refl, ◌≡◌, ℕ, List, [], ◌∷◌, ◌++◌, map, fold, Start, Next, responses, took, sent, append_assoc, append-nil, Progress, advanced, begun, after_notes, ◌≢◌, zero, suc}
use Rattle.fbl_trace.proofs.Common.{◌+◌, ◌<◌, ◌≤◌, ◌==◌, ◌&&◌, inl, inr, true, false, cond, length, take, Some, slice_get, sym, ap, ◌∙◌, arith, filter_map, cases_eq, nat_tests, take-append-le}
use Rattle.fbl_trace.proofs.Common.{filter_map-append, Mark, At, sends_of, is_send_of, MayFollow, WellFormed, length-append, length-take, All, map-append, length-map, sum_by-append, All-head, All-tail}
use Rattle.fbl_trace.proofs.Common.{drop, Option, None, slice_get-map, Event, mark_of, Action, action_of, actions_of, notes_of, note_of, start_of, starts_of, step_events}
use Rattle.fbl_trace.specs.declared.trace.Mark.TheVariants as mark
use Rattle.fbl_trace.specs.declared.trace.Event.TheVariants.{Send, Receipt}
use Rattle.std.proofs.lemmas.List.{drop-append-le}
use Rattle.fbl_trace.specs.Fold.{InTurns}
use Rattle.fbl_trace.specs.Laws.{LawfulDeliveryLaw}
use Rattle.fbl_trace.proofs.Gets.{length-filter_map, filter_map-agree}
use Rattle.fbl_trace.proofs.RulesLaws.{WellFormed-push, sent-before, eqb-self}

module _ {S N : Type 0} where
  pub responses-push : (next : Next S N) (member n : ℕ) (state : S) (notes : List N) (note : N)
      → responses next member n state (notes ++ note ∷ [])
      ≡ responses next member n state notes ++ (took note ∷ map sent (next.step member n (fold (λ s x. (next.step member n s x).state) state notes) note).sends.items)
  responses-push next member n state [] note = simp append-nil
  responses-push next member n state (x ∷ notes) note = (let ih = responses-push next member n (next.step member n state x).state notes note in rw (append_assoc, ← ih))

  fold-state : (next : Next S N) (member n : ℕ) (p : Progress S N) (notes : List N) → (fold (advanced next member n) p notes).state ≡ fold (λ s x. (next.step member n s x).state) p.state notes
  fold-state next member n p [] = refl
  fold-state next member n p (x ∷ notes) = fold-state next member n (advanced next member n p x) notes

  -- the state after the notes is that of `next` alone
  pub after_notes-state : (next : Next S N) (member n : ℕ) (starts : List (Start N)) (notes : List N) → (after_notes next member n starts notes).state ≡ fold (λ s x. (next.step member n s x).state) (next.initial member n) notes
  after_notes-state next member n starts notes = fold-state next member n (begun (next.initial member n) member starts) notes

module _ {N : Type 0} where
  -- a note that was sent stays sent
  pub note_of-front : (t s : List (Event N)) (from ssn : ℕ) (note : N) → note_of t from ssn ≡ Some note → note_of (t ++ s) from ssn ≡ Some note
  note_of-front [] s from ssn note h = cc
  note_of-front (Send q k to x ∷ t) s from ssn note h = grind (arith, note_of-front t s from ssn note, h)
  note_of-front (Receipt to rsn q k ∷ t) s from ssn note h = note_of-front t s from ssn note h

  pub notes_of-append : (xs ys : List (Action N)) → notes_of (xs ++ ys) ≡ notes_of xs ++ notes_of ys
  notes_of-append [] ys = refl
  notes_of-append (took note ∷ xs) ys = ap (λ zs. note ∷ zs) (notes_of-append xs ys)
  notes_of-append (sent s ∷ xs) ys = notes_of-append xs ys

  pub notes_of-sent : (sends : List (ℕ × N)) → notes_of (map sent sends) ≡ []
  notes_of-sent [] = refl
  notes_of-sent (s ∷ sends) = notes_of-sent sends

  -- a step's sends are its member's
  pub step-actions : (t : List (Event N)) (p m before : ℕ) (sends : List (ℕ × N)) → filter_map (action_of t m) (step_events p before sends) ≡ cond (p == m) (map sent sends) []
  step-actions t p m before [] = grind arith
  step-actions t p m before (s ∷ sends) = (let rest = step-actions t p m (before + 1) sends in grind (arith, rest))

  -- the sends of a step obey the rules
  pub sends_obey : (n p before : ℕ) (u : List Mark) (sends : List (ℕ × N)) → WellFormed n u → p < n → before ≡ sends_of u p
      → All (λ (s : ℕ × N). (s.0 < n) × (s.0 ≢ p)) sends → length u + length sends ≤ 8192 → WellFormed n (u ++ map mark_of (step_events p before sends))
  sends_obey n p before u [] obeys member count allowed room = rw append-nil obeys
  sends_obey n p before u (s ∷ sends) obeys member count allowed room =
      let e : Mark = mark.Send p (before + 1) s.0 in
      let here = All-head (λ (x : ℕ × N). (x.0 < n) × (x.0 ≢ p)) s sends allowed in
      let may : MayFollow n u e = (member, here.0, (λ h. here.1 (sym h)), ap (λ x. x + 1) count, omega (arith, room)) in
      let self : (p == p) ≡ true = eqb-self p in
      let more : before + 1 ≡ sends_of (u ++ e ∷ []) p = rw (sum_by-append (λ y. cond (is_send_of p y) 1 0) u (e ∷ []), self) (omega (arith, count)) in
      (rw append_assoc at (sends_obey n p (before + 1) (u ++ e ∷ []) sends (WellFormed-push n u e obeys may) member more
      (All-tail (λ (x : ℕ × N). (x.0 < n) × (x.0 ≢ p)) s sends allowed) (omega (arith, room, length-append u (e ∷ [])))))

  -- a receipt with its sends is a turn
  turns_sent : (p before : ℕ) (sends : List (ℕ × N)) → InTurns (Some p) (step_events p before sends)
  turns_sent p before [] = tt
  turns_sent p before (s ∷ sends) = (refl, turns_sent p (before + 1) sends)

  turns_more : (last : Option ℕ) (t : List (Event N)) (p rsn q s before : ℕ) (sends : List (ℕ × N)) → InTurns last t → InTurns last (t ++ Receipt p rsn q s ∷ step_events p before sends)
  turns_more last [] p rsn q s before sends turns = turns_sent p before sends
  turns_more last (Send q' k to x ∷ t) p rsn q s before sends turns = (turns.0, turns_more (Some q') t p rsn q s before sends turns.1)
  turns_more last (Receipt to r q' k ∷ t) p rsn q s before sends turns = turns_more (Some to) t p rsn q s before sends turns

  -- a message that was sent has a note
  pub sent-note : (t : List (Event N)) (i q k p : ℕ) → At (map mark_of t) i (mark.Send q k p) → (note : N) × (note_of t q k ≡ Some note)
  sent-note [] i q k p h = cc
  sent-note (Send q' k' p' x ∷ t) zero q k p h = (x, grind (arith, nat_tests))
  sent-note (Send q' k' p' x ∷ t) (suc i) q k p h = elim (q' == q && k' == k) as (λ b. (note : N) × (cond b (Some x) (note_of t q k) ≡ Some note)) [ true ↦ (x, refl) | false ↦ sent-note t i q k p h ]
  sent-note (Receipt p' r q' k' ∷ t) zero q k p h = cc
  sent-note (Receipt p' r q' k' ∷ t) (suc i) q k p h = sent-note t i q k p h

  -- in a trace that obeys the rules each receipt's message was sent, so its note is known
  pub receipts-noted : (n : ℕ) (t : List (Event N)) → WellFormed n (map mark_of t) → (i to rsn from ssn : ℕ)
      → slice_get t i ≡ Some (Receipt to rsn from ssn) → (note : N) × (note_of t from ssn ≡ Some note)
  receipts-noted n t obeys i to rsn from ssn at =
      (let sent' = sent-before n (map mark_of t) obeys i to rsn from ssn (slice_get-map mark_of t i ∙ (rw at)) in sent-note t sent'.0 from ssn to sent'.2)

  -- what a member did stays the same as the trace grows
  pub actions-append : (n : ℕ) (t new : List (Event N)) (m : ℕ) → WellFormed n (map mark_of t) → actions_of (t ++ new) m ≡ actions_of t m ++ filter_map (action_of (t ++ new) m) new
  actions-append n t new m obeys =
      filter_map-append (action_of (t ++ new) m) t new
      ∙ ap (λ xs. xs ++ filter_map (action_of (t ++ new) m) new) (filter_map-agree (action_of (t ++ new) m) (action_of t m) t agree)
    where
      agree : (i : ℕ) (e : Event N) → slice_get t i ≡ Some e → action_of (t ++ new) m e ≡ action_of t m e
      agree i (Send q k to x) here = refl
      agree i (Receipt to rsn from ssn) here =
          let noted = receipts-noted n t obeys i to rsn from ssn here in
          let e : note_of (t ++ new) from ssn ≡ note_of t from ssn = note_of-front t new from ssn noted.0 noted.1 ∙ sym noted.1 in
          rw e refl

module _ {S N : Type 0} where
  -- a delivery keeps a trace lawful
  pub lawful_deliver : LawfulDeliveryLaw S N
  lawful_deliver next n starts t p rsn q s note sends lawful may noted answer allowed room =
      let begun : length starts ≤ length t = omega (arith, ap length lawful.starts_first, length-filter_map start_of (take (length starts) t), length-take (length starts) t) in
      let before = sends_of (map mark_of t) p in
      let new = Receipt p rsn q s ∷ step_events p before sends in
      let R : Mark = mark.Receipt p rsn q s in
      let old = actions_of t p in
      let tail : List (Action N) = took note ∷ map sent sends in
      let count : before ≡ sends_of (map mark_of t ++ R ∷ []) p = rw (sum_by-append (λ y. cond (is_send_of p y) 1 0) (map mark_of t) (R ∷ [])) (omega arith) in
      let fits : length (map mark_of t ++ R ∷ []) + length sends ≤ 8192 = omega (arith, length-append (map mark_of t) (R ∷ []), length-map t mark_of, room) in
      let grown = λ (m : ℕ). actions-append n t new m lawful.well_formed in
      let own : actions_of (t ++ new) p ≡ old ++ tail = grown p ∙ (rw (step-actions (t ++ new) p p before sends, eqb-self p, note_of-front t new q s note noted) refl) in
      let notes : notes_of (old ++ tail) ≡ notes_of old ++ note ∷ [] = notes_of-append old tail ∙ ap (λ xs. notes_of old ++ note ∷ xs) (notes_of-sent sends) in
      record {
        well_formed = rw (map-append mark_of t new) (rw append_assoc at
            (sends_obey n p before (map mark_of t ++ R ∷ []) sends (WellFormed-push n (map mark_of t) R lawful.well_formed may) may.1 count allowed fits));
        starts_first = rw (take-append-le (length starts) t new begun) lawful.starts_first;
        responds = λ m. elim (cases_eq p m) [
          | inl same ↦
              rw (← same, own, notes, responses-push next p n (next.initial p n) (notes_of old) note, ← answer)
              (ap (λ xs. xs ++ tail) (lawful.responds p) ∙ append_assoc (map sent (starts_of p starts)) (responses next p n (next.initial p n) (notes_of old)) tail)
          | inr other ↦
              let no : (p == m) ≡ false = grind (arith, nat_tests) in
              let kept : actions_of (t ++ new) m ≡ actions_of t m = grown m ∙ (rw (step-actions (t ++ new) p m before sends, no) (append-nil (actions_of t m))) in
              rw kept (lawful.responds m)
        ];
        turns = rw (drop-append-le (length starts) t new begun) (turns_more None (drop (length starts) t) p rsn q s before sends lawful.turns);
      }
