-- The sends and receipts of a run in which nobody restarts and there are but events and holds.
use Rattle.fbl_runs.proofs.Common.{ℕ, suc, ◌≡◌, ◌<◌, ◌+◌, ◌⊎◌, inl, inr, List, [], ◌∷◌, ◌++◌, length, take, drop, Some, None, slice_get, refl, sym, ap, ◌∙◌, arith, cases_order, filter_map-append}
use Rattle.fbl_runs.proofs.Common.{At-filter_map, At-front, filter_map-At, slice_get-take, slice_get_within, take-more, take-append-drop, length-take}
use Rattle.fbl_trace.specs.declared.trace.Determinant.{Determinant}
use Rattle.fbl_trace.specs.declared.trace.Mark.{Mark}
use Rattle.fbl_trace.specs.declared.trace.Mark.TheVariants.{Receipt, Send}
use Rattle.fbl_runs.proofs.Common.{MayFollow-last, MayFollow-new, WellFormed-front, in_flight-sent, MayFollow, WellFormed, send_of}
use Rattle.fbl_runs.specs.declared.entry.Entry.{Entry}
use Rattle.fbl_runs.specs.declared.entry.Entry.TheVariants.{Event, Hold, Restart}
use Rattle.fbl_runs.proofs.Common.{log_of, mark_in, restart_in, marks, IsAt, Position, at, StandsBehind, StandsInLife, Carries}
use Rattle.fbl_runs.specs.declared.entry.Restart as restart
use Rattle.fbl_runs.specs.Lives.{life_after, life_from}
use Rattle.fbl_runs.proofs.Listing.{locate_all, one_place}

-- each entry is an event or a hold
abbrev pub IsPlain : List Entry → Type 0
IsPlain entries = (p : ℕ) (e : Entry) → slice_get entries p ≡ Some e → ((m : Mark) × (e ≡ Event m)) ⊎ ((h : ℕ × Determinant) × (e ≡ Hold h.0 h.1))

-- where no entry is a restart, a life goes on
life_goes_on : (log : List Entry) (life : ℕ) → ((k : ℕ) (r : restart.Restart) → ¬ (slice_get log k ≡ Some (Restart r))) → life_from life log ≡ life
life_goes_on [] life none = refl
life_goes_on (e ∷ log) life none = by_entry e (life_goes_on log life (λ k r. none (suc k) r)) (λ r is. none 0 r (ap Some is)) where
  by_entry : (e : Entry) → life_from life log ≡ life → ((r : restart.Restart) → ¬ (e ≡ Restart r)) → life_from (life_after (restart_in e) life) log ≡ life
  by_entry (Restart r) rest not = absurd (not r refl)
  by_entry e rest not = rest

module _ (n : ℕ) (entries : List Entry) (obeys : WellFormed n (marks entries)) (plain : IsPlain entries) where
  front_obeys : (p : ℕ) (e : Mark) → slice_get entries p ≡ Some (Event e) → WellFormed n (marks (take p entries) ++ e ∷ [])
  front_obeys p e here =
      let t = marks (take p entries) in
      let rest = marks (drop (suc p) entries) in
      let front : marks (take (suc p) entries) ≡ t ++ e ∷ [] = (rw (take-more entries p (Event e) here) (filter_map-append mark_in (take p entries) (Event e ∷ []))) in
      let whole : marks entries ≡ (t ++ e ∷ []) ++ rest =
      ap marks (sym (take-append-drop (suc p) entries)) ∙ filter_map-append mark_in (take (suc p) entries) (drop (suc p) entries) ∙ ap (λ x. x ++ rest) front in
      WellFormed-front n (t ++ e ∷ []) rest (rw whole at obeys)

  pub may : (p : ℕ) (e : Mark) → slice_get entries p ≡ Some (Event e) → MayFollow n (marks (take p entries)) e
  may p e here = MayFollow-last n (marks (take p entries)) e (front_obeys p e here)

  -- an entry that is a send or a receipt is an event
  pub is_mark : (p : ℕ) (e : Entry) (m : Mark) → slice_get entries p ≡ Some e → mark_in e ≡ Some m → e ≡ Event m
  is_mark p e m here is = elim (plain p e here) [
    | inl event ↦ (let both : Some event.0 ≡ Some m = sym (ap mark_in event.1) ∙ is in let same : event.0 ≡ m = (cc) in event.1 ∙ ap Event same)
    | inr hold ↦ (let no' : None ≡ Some m = sym (ap mark_in hold.1) ∙ is in cc)
  ]

  -- no send or receipt stands twice
  not_twice : (p q : ℕ) (e : Mark) → slice_get entries p ≡ Some (Event e) → slice_get entries q ≡ Some (Event e) → p < q → ⊥
  not_twice p q e at_p at_q before =
      let among = filter_map-At mark_in (take q entries) p (Event e) e (slice_get-take entries q p (Event e) before at_p) refl in
      MayFollow-new n (marks (take q entries)) e (WellFormed-front n (marks (take q entries)) (e ∷ []) (front_obeys q e at_q)) (may q e at_q) among

  pub once : (p q : ℕ) (e : Mark) → slice_get entries p ≡ Some (Event e) → slice_get entries q ≡ Some (Event e) → p ≡ q
  once p q e at_p at_q = elim (cases_order p q) [
    | inl same ↦ same
    | inr (inl below) ↦ absurd (not_twice p q e at_p at_q below)
    | inr (inr above) ↦ absurd (not_twice q p e at_q at_p above)
  ]

  -- what a receipt takes is sent before
  pub sent_before : (p : ℕ) (r s : Mark) → slice_get entries p ≡ Some (Event r) → send_of r ≡ Some s → (q : ℕ) × (q < p) × (slice_get entries q ≡ Some (Event s))
  sent_before p (Send from ssn to) s here takes = cc
  sent_before p (Receipt to rsn from ssn) s here takes =
      let m = may p (Receipt to rsn from ssn) here in
      let sent = in_flight-sent (marks (take p entries)) from ssn to 0 m.5 in
      let among = At-filter_map mark_in (take p entries) sent.0 (Send from ssn to) sent.1 in
      let below = slice_get_within (take p entries) among.0 among.1 among.2 in
      let is : among.1 ≡ Event s = is_mark among.0 among.1 (Send from ssn to) (front_at among.0 among.1 among.2) among.3 ∙ (let same : Send from ssn to ≡ s = cc in ap Event same) in
      let early : among.0 < p = omega (arith, below, length-take p entries) in
      (among.0, early, front_at among.0 among.1 among.2 ∙ ap Some is) where
        front_at : (i : ℕ) (x : Entry) → slice_get (take p entries) i ≡ Some x → slice_get entries i ≡ Some x
        front_at i x is = (rw take-append-drop at (At-front (take p entries) (drop p entries) i x is))

  -- one event stands at one position
  pub one_event : (m k q l : ℕ) (e : Mark) → IsAt (log_of entries) (at m k) (Event e) → IsAt (log_of entries) (at q l) (Event e) → (m ≡ q) × (k ≡ l)
  one_event m k q l e at_m at_q = one_place entries m k q l (Event e) (λ a b. once a b e) at_m at_q

  no_restart : (q k : ℕ) (r : restart.Restart) → ¬ (slice_get (log_of entries q) k ≡ Some (Restart r))
  no_restart q k r here =
      let w = locate_all entries q k (Restart r) here in
      elim (plain w.0 (Restart r) w.2) [
        | inl event ↦ (let no' : Restart r ≡ Event event.0 = event.1 in cc)
        | inr hold ↦ (let no' : Restart r ≡ Hold hold.0.0 hold.0.1 = hold.1 in cc)
      ]

  -- what has come stands
  pub stands : (q k x : ℕ) → k < x → StandsBehind (log_of entries q) k x
  stands q k x less = (less, λ number r past below here. absurd (no_restart q number r here))

  -- in the members' life 0
  in_life : (q k : ℕ) → k < length (log_of entries q) → StandsInLife (log_of entries q) 0 k
  in_life q k within = (
    k + 1,
    omega (arith, within),
    life_goes_on (take (k + 1) (log_of entries q)) 0 (λ i r here. no_restart q i r (front_at (log_of entries q) (k + 1) i (Restart r) here)),
    stands q k (k + 1) (omega arith),
  ) where
    front_at : (log : List Entry) (x i : ℕ) (e : Entry) → slice_get (take x log) i ≡ Some e → slice_get log i ≡ Some e
    front_at log x i e is = (rw take-append-drop at (At-front (take x log) (drop x log) i e is))

  -- so a receipt takes each send of its message
  pub carries : (i j : Position) (s r : Mark) → IsAt (log_of entries) i (Event s) → IsAt (log_of entries) j (Event r) → send_of r ≡ Some s → Carries (log_of entries) i j
  carries i j s r at_i at_j takes = (s, r, Event r, at_i, at_j, refl, takes, in_life i.member i.number (slice_get_within (log_of entries i.member) i.number (Event s) at_i))

  -- an entry at a position that is a send or a receipt is an event
  pub mark_at : (i : Position) (e : Entry) (m : Mark) → IsAt (log_of entries) i e → mark_in e ≡ Some m → IsAt (log_of entries) i (Event m)
  mark_at i e m here is = (let w = locate_all entries i.member i.number e here in here ∙ ap Some (is_mark w.0 e m w.2 is))
