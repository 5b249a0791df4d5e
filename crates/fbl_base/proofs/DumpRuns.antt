-- The run of a dump and the dump say the same.
use Rattle.std.proofs.Common.{ℕ, zero, suc, Bool, true, false, not, ◌≡◌, ◌<◌, ◌≤◌, ◌↔◌, inl, inr, List, [], ◌∷◌, Option, Some, None, slice_get, refl, sym, ap, ◌∙◌, length}
use Rattle.fbl_runs.proofs.Common.{subst, arith, cases_eq, cases_order, slice_get_within, slice_get_read, false≢true, At-filter_map, filter_map-At, ◌+◌}
use Rattle.fbl_runs.proofs.Common.{WellFormed, entry_member, log_of, mark_in, marks, IsAt, Leads, Position, Precedes, at, itself, step}
use Rattle.fbl_trace.specs.declared.trace.Determinant.{Determinant}
use Rattle.fbl_trace.specs.declared.trace.Mark.{Mark}
use Rattle.fbl_runs.specs.declared.causality.Causality.TheVariants.{Dependence}
use Rattle.fbl_runs.specs.declared.entry.Entry.{Entry}
use Rattle.fbl_runs.specs.declared.entry.Entry.TheVariants.{Event, Hold, LaterReceipt, Store}
use Rattle.fbl_trace.specs.Events.{determinant_of, member_of, receipt_of, receipts, send_of}
use Rattle.fbl_trace.specs.declared.trace.Mark.TheVariants.{Receipt, Send}
use Rattle.fbl_runs.specs.Moments.{Cut, DependsAt, HoldsAt, IsReceiptAt, IsStoredAt, Stands, last_cut}
use Rattle.fbl_runs.specs.Runs.{IsOrphanAt, IsSafe, LosesAt, MayBeLost, Run}
use Rattle.fbl_runs.specs.Entries.{receipt_in, receipts_in}
use Rattle.fbl_runs.specs.Logs.{hold_of, run_of, run_of_dump}
use Rattle.fbl_runs.proofs.RunLaws.{entry_of_dump, events_of_dump, pair_in_dump}
use Rattle.std.specs.List.{Contains, cons_option, filter, filter_map}
use Rattle.std.proofs.lemmas.Option.{get_or_from_slice_get}
use Rattle.std.specs.FinSet as set
use Rattle.fbl_trace.proofs.Gets.{Apart, Apart-filter_map, Apart-later}
use Rattle.fbl_trace.specs.Dumps.{IsDump, Parts}
use Rattle.fbl_trace.specs.Losses.{IsDumpOrphan, IsHeldOutside, IsLost, is_held_outside, lost_determinants}
use Rattle.fbl_trace.proofs.PrecedenceLaws.{Has-first, Has-last}
use Rattle.fbl_trace.specs.MemberSets.{Members}
use Rattle.fbl_trace.specs.Precedence as base
use Rattle.fbl_runs.specs.Clocks.{StandsAt, seen}
use Rattle.fbl_runs.proofs.Listing.{locate_all, placed, seen-later, stands_at}
use Rattle.fbl_judge.specs.declared.audit.LostReceipt.{LostReceipt}
use Rattle.fbl_judge.proofs.Audits.{one_determinant}
use Rattle.fbl_judge.proofs.Places.{one_entry, placed_at}
use Rattle.fbl_runs.proofs.LeadsLaws.{one_position}
use Rattle.fbl_base.proofs.EventLaws.{IsPlain, carries, is_mark, mark_at, one_event, sent_before, stands}
use Rattle.fbl_judge.specs.Audits.{AreLost, end_of}
use Rattle.fbl_base.specs.DumpRuns.{DumpLaw, determinants, struck_by}
use Rattle.fbl_base.proofs.HeldOutside.{Decides-is_held_outside}

-- elements that a map keeps stay apart
filter_map-Apart : {X Y : Type 0} (f : X → Option Y) (xs : List X) (a b : X) (x y : Y) → Apart xs a b → f a ≡ Some x → f b ≡ Some y → Apart (filter_map f xs) x y
filter_map-Apart f [] a b x y h fa fb = (let e = h.3 in cc)
filter_map-Apart {X} {Y} f (z ∷ zs) a b x y h fa fb = at_case (λ g. filter_map-Apart f zs a b x y g fa fb) h.0 h.1 h.2 h.3 h.4 where
  later : (o : Option Y) → Apart (filter_map f zs) x y → Apart (cons_option o (filter_map f zs)) x y
  later None r = r
  later (Some w) r = Apart-later w (filter_map f zs) x y r

  at_case : (Apart zs a b → Apart (filter_map f zs) x y) → (i j : ℕ) → i < j → slice_get (z ∷ zs) i ≡ Some a → slice_get (z ∷ zs) j ≡ Some b → Apart (cons_option (f z) (filter_map f zs)) x y
  at_case rest i zero below at_i at_j = absurd (omega arith)
  at_case rest zero (suc j) below at_i at_j =
      let fz : f z ≡ Some x = (let same : z ≡ a = cc in ap f same ∙ fa) in
      let r = filter_map-At f zs j b y at_j fb in
      (rw fz (0, suc r.0, omega arith, refl, r.1))
  at_case rest (suc i) (suc j) below at_i at_j = later (f z) (rest (i, j, omega arith, at_i, at_j))

module _ (n : ℕ) (entries : List Entry) (obeys : WellFormed n (marks entries)) (plain : IsPlain entries) where
  abbrev t : List Mark
  t = marks entries

  -- the later of two entries of a member stands later in the list
  places_rise : (m k l p q : ℕ) (a b : Entry) → k < l → slice_get entries p ≡ Some a → entry_member a ≡ m → seen entries p m ≡ k → slice_get entries q ≡ Some b → entry_member b ≡ m → seen entries q m ≡ l → p < q
  places_rise m k l p q a b below at_p own_p is_k at_q own_q is_l = elim (cases_order p q) [
    | inl same ↦ absurd (let e = ap (λ x. seen entries x m) same in omega (arith, e, is_k, is_l, below))
    | inr (inl fine) ↦ fine
    | inr (inr above) ↦ absurd (let e = seen-later entries q p m b at_q own_q above in omega (arith, e, is_k, is_l, below))
  ]

  earlier_own : (m k l : ℕ) (a b : Mark) → IsAt (log_of entries) (at m k) (Event a) → IsAt (log_of entries) (at m l) (Event b) → k < l → base.Earlier t a b
  earlier_own m k l a b at_k at_l below =
      let x = locate_all entries m k (Event a) at_k in
      let y = locate_all entries m l (Event b) at_l in
      filter_map-Apart mark_in entries (Event a) (Event b) a b (x.0, y.0, places_rise m k l x.0 y.0 (Event a) (Event b) below x.2 x.3 x.4 y.2 y.3 y.4, x.2, y.2) refl refl

  own_member : (i : Position) (a : Mark) → IsAt (log_of entries) i (Event a) → member_of a ≡ i.member
  own_member i a here = (locate_all entries i.member i.number (Event a) here).3

  has_mark : (i : Position) (a : Mark) → IsAt (log_of entries) i (Event a) → base.Has t a
  has_mark i a here = (let w = locate_all entries i.member i.number (Event a) here in filter_map-At mark_in entries w.0 (Event a) a w.2 refl)

  -- what a receipt takes stands earlier
  earlier_sent : (i : Position) (s r : Mark) → IsAt (log_of entries) i (Event r) → send_of r ≡ Some s → base.Earlier t s r
  earlier_sent i s r here takes =
      let w = locate_all entries i.member i.number (Event r) here in
      let sent = sent_before n entries obeys plain w.0 r s w.2 takes in
      filter_map-Apart mark_in entries (Event s) (Event r) s r (sent.0, w.0, sent.1, sent.2, w.2) refl refl

  -- an event precedes the later ones of its member
  to_later : (a : Mark) (u : Position) (s : Mark) → IsAt (log_of entries) u (Event s) → (b : Mark) (k : Position) → IsAt (log_of entries) k (Event b) → k.member ≡ u.member → k.number ≤ u.number
      → base.Precedes t a b → base.Precedes t a s
  to_later a u s at_u b k at_k same behind p =
      let P : ℕ → Type 0 = λ m. IsAt (log_of entries) (at m k.number) (Event b) in
      let at_k' : IsAt (log_of entries) (at u.member k.number) (Event b) = subst P same at_k in
      elim (cases_eq k.number u.number) [
        | inl equal ↦
            let Q : ℕ → Type 0 = λ l. IsAt (log_of entries) (at u.member l) (Event b) in
            let both : Some (Event b) ≡ Some (Event s) = sym (subst Q equal at_k') ∙ at_u in
            let is : b ≡ s = (let e : Event b ≡ Event s = (cc) in cc) in
            subst (λ (x : Mark). base.Precedes t a x) is p
        | inr ne ↦ base.step p (earlier_own u.member k.number u.number b s at_k' at_u (omega (arith, behind, ne)), inl (own_member k b at_k ∙ same ∙ sym (own_member u s at_u)))
      ]

  -- a path among the logs' entries is one among the events, as far as the last event on it
  LastEvent : Mark → Position → Type 0
  LastEvent a j = (b : Mark) × (k : Position) × IsAt (log_of entries) k (Event b) × (k.member ≡ j.member) × (k.number ≤ j.number) × base.Precedes t a b

  to_marks : {i j : Position} (a : Mark) → IsAt (log_of entries) i (Event a) → Precedes Dependence (log_of entries) i j → LastEvent a j
  unfolding LastEvent
  to_marks {i} a here (itself h) = (a, i, here, refl, omega arith, base.itself (has_mark i a here))
  to_marks a here (step {j = u} {k = v} p leads) =
      let r = to_marks a here p in
      elim leads [
        | inl stood ↦ (r.0, r.1, r.2, r.3 ∙ stood.0.4, (let behind = r.4 in let less = stood.0.5 in omega (arith, behind, less)), r.5)
        | inr carries ↦
            let at_v : IsAt (log_of entries) v (Event carries.1) = mark_at n entries obeys plain v carries.2 carries.1 carries.4 carries.5 in
            let path = to_later a u carries.0 carries.3 r.0 r.1 r.2 r.3 r.4 r.5 in
            (carries.1, v, at_v, refl, omega arith, base.step path (earlier_sent v carries.0 carries.1 at_v carries.6, inr carries.6))
      ]

  -- where an event of the list stands in its member's log
  position_of : (p : ℕ) (a : Mark) → slice_get entries p ≡ Some (Event a) → IsAt (log_of entries) (at (member_of a) (seen entries p (member_of a))) (Event a)
  position_of p a here = placed entries p (Event a) (member_of a) here refl

  pub from_marks : {a b : Mark} (i j : Position) → IsAt (log_of entries) i (Event a) → IsAt (log_of entries) j (Event b) → base.Precedes t a b → Precedes Dependence (log_of entries) i j
  from_marks {a} i j at_i at_j (base.itself h) =
      let one = one_event n entries obeys plain i.member i.number j.member j.number a at_i at_j in
      let same : i ≡ j = λ x. record { member = one.0 x; number = one.1 x } in
      subst (λ (y : Position). Precedes Dependence (log_of entries) i y) same (itself at_i)
  from_marks {a} {b = c} i j at_i at_j (base.step {b} p leads) =
      let apart = Apart-filter_map mark_in entries b c leads.0 in
      let places = apart.2 in
      let at_b : slice_get entries places.0 ≡ Some (Event b) = places.3 ∙ ap Some (is_mark n entries obeys plain places.0 apart.0 b places.3 apart.3) in
      let at_c : slice_get entries places.1 ≡ Some (Event c) = places.4 ∙ ap Some (is_mark n entries obeys plain places.1 apart.1 c places.4 apart.4) in
      let k : Position = at (member_of b) (seen entries places.0 (member_of b)) in
      let at_k = position_of places.0 b at_b in
      let l : Position = at (member_of c) (seen entries places.1 (member_of c)) in
      let at_l = position_of places.1 c at_c in
      let before : Precedes Dependence (log_of entries) i k = from_marks i k at_i at_k p in
      let last : Leads Dependence (log_of entries) k l = elim leads.1 [
        | inl own ↦
            let rise = seen-later entries places.0 places.1 (member_of b) (Event b) at_b refl places.2 in
            let less : k.number < l.number = subst (λ (m : ℕ). seen entries places.0 (member_of b) < seen entries places.1 m) own rise in
            inl ((Event b, Event c, at_k, at_l, own, less), stands n entries obeys plain k.member k.number (l.number + 1) (omega (arith, less)))
        | inr takes ↦ inr (carries n entries obeys plain k l b c at_k at_l takes)
      ] in
      let one = one_event n entries obeys plain l.member l.number j.member j.number c at_l at_j in
      let same : l ≡ j = λ x. record { member = one.0 x; number = one.1 x } in
      subst (λ (y : Position). Precedes Dependence (log_of entries) i y) same (step before last)

  -- who depends on a receipt at the last moment depends on it by the events
  pub depends_iff : (i : Position) (d : Determinant) → IsAt (log_of entries) i (Event (receipt_of d)) → (q : ℕ) → DependsAt (log_of entries) (last_cut (log_of entries)) i q ↔ base.Depends t q (receipt_of d)
  unfolding LastEvent
  depends_iff i d at_i q = (
    λ h. (let r = to_marks (receipt_of d) at_i h.1 in (r.0, r.5, own_member r.1 r.0 r.2 ∙ r.3)),
    λ h.
        let last = Has-last h.1 in
        let l = At-filter_map mark_in entries last.0 h.0 last.1 in
        let at_l = position_of l.0 h.0 (l.2 ∙ ap Some (is_mark n entries obeys plain l.0 l.1 h.0 l.2 l.3)) in
        let P : ℕ → Type 0 = λ m. DependsAt (log_of entries) (last_cut (log_of entries)) i m in
        let number = seen entries l.0 (member_of h.0) in
        subst P h.2 (number, from_marks _ _ at_i at_l h.1, stands n entries obeys plain (member_of h.0) number (length (log_of entries (member_of h.0))) (slice_get_within (log_of entries (member_of h.0)) _ (Event h.0) at_l)),
  )

-- the receipts of a list are those of its events
receipts_of : (es : List Entry) → receipts_in es ≡ receipts (marks es)
receipts_of [] = refl
receipts_of (LaterReceipt d life ∷ es) = ap (λ ds. d ∷ ds) (receipts_of es)
receipts_of (Event m ∷ es) = ap (λ ds. cons_option (determinant_of m) ds) (receipts_of es)
receipts_of (e ∷ es) = receipts_of es

module _ (dump : Parts) (rules : IsDump dump) where
  abbrev es : List Entry
  es = (run_of_dump dump).entries

  abbrev run : Run
  run = run_of (run_of_dump dump)

  abbrev end : Cut
  end = end_of (run_of_dump dump)

  obeys : WellFormed dump.members (marks es)
  obeys = rw (events_of_dump dump) rules.events

  plain : IsPlain es
  plain p e here = elim (entry_of_dump dump p e here) [ inl event ↦ inl (event.1, event.3) | inr pair ↦ inr (pair.1, pair.3) ]

  -- who holds a determinant at the end has a pair
  holds_iff : (d : Determinant) (q : ℕ) → HoldsAt (log_of es) end d q ↔ Contains dump.held (q, d)
  holds_iff d q = (
    λ h.
        let w = locate_all es q h.0 (Hold q d) h.1 in
        elim (entry_of_dump dump w.0 (Hold q d) w.2) [
          | inl e ↦ (let no : Hold q d ≡ Event e.1 = e.3 in cc)
          | inr p ↦ pair p.0 p.1 p.2 p.3
        ],
    λ h.
        let here : slice_get dump.held h.0 ≡ Some (q, d) = slice_get_read dump.held (length dump.held) h.0 (q, d) refl h.1 (sym h.2) in
        let r = pair_in_dump dump h.0 (q, d) here in
        let there = placed es r.0 (Hold q d) q r.1 refl in
        (seen es r.0 q, there, stands dump.members es obeys plain q (seen es r.0 q) (length (log_of es q)) (slice_get_within (log_of es q) (seen es r.0 q) (Hold q d) there)),
  ) where
    pair : (k : ℕ) (p : ℕ × Determinant) → slice_get dump.held k ≡ Some p → Hold q d ≡ hold_of p → Contains dump.held (q, d)
    pair k (q', d') here same =
        let both : ◌≡◌ {A = ℕ × Determinant} (q', d') (q, d) = cc in
        let there = here ∙ ap Some both in
        (k, slice_get_within dump.held k (q, d) there, get_or_from_slice_get dump.held k (q, d) (q, d) there)

  -- nothing is on stable storage
  unstored : (d : Determinant) → ¬ (IsStoredAt (log_of es) end d)
  unstored d s =
      let w = locate_all es s.0 s.1 (Store s.0 d) s.2 in
      elim (entry_of_dump dump w.0 (Store s.0 d) w.2) [
        | inl e ↦ (let no : Store s.0 d ≡ Event e.1 = e.3 in cc)
        | inr p ↦ (let no : Store s.0 d ≡ hold_of p.1 = p.3 in cc)
      ]

  -- a receipt is an event
  receipt_event : (i : Position) (d : Determinant) → IsReceiptAt (log_of es) d i → IsAt (log_of es) i (Event (receipt_of d))
  receipt_event i d (e, at_i, is) = mark_at dump.members es obeys plain i e (receipt_of d) at_i (mark_of e is) where
    mark_of : (e : Entry) → receipt_in e ≡ Some d → mark_in e ≡ Some (receipt_of d)
    mark_of (Event (Send from ssn to)) is = cc
    mark_of (Event (Receipt to rsn from ssn)) is =
        let some : ◌≡◌ {A = Option Determinant} (Some (record { from = from; ssn = ssn; to = to; rsn = rsn })) (Some d) = is in
        let same : ◌≡◌ {A = Determinant} (record { from = from; ssn = ssn; to = to; rsn = rsn }) d = (cc) in
        ap (λ (d : Determinant). Some (receipt_of d)) same
    mark_of (LaterReceipt d' life) is =
        let some : ◌≡◌ {A = Option Determinant} (Some d') (Some d) = is in
        let same : d' ≡ d = (cc) in
        ap (λ (d : Determinant). Some (receipt_of d)) same
    mark_of e is = cc

  -- who depends on a receipt at the end depends on it by the events
  depends_same : (i : Position) (d : Determinant) → IsReceiptAt (log_of es) d i → (q : ℕ) → DependsAt (log_of es) end i q ↔ base.Depends dump.events q (receipt_of d)
  depends_same i d is q =
      let P : List Mark → Type 0 = λ events. DependsAt (log_of es) end i q ↔ base.Depends events q (receipt_of d) in
      subst P (events_of_dump dump) (depends_iff dump.members es obeys plain i d (receipt_event i d is) q)

  -- the loss of members loses a determinant exactly where nobody outside them has a pair
  loses_iff : (members : Members) (d : Determinant) → LosesAt run end members d ↔ ¬ (IsHeldOutside (struck_by members dump) d)
  loses_iff members d = (
    λ lost held. lost.1 held.0 held.2 ((holds_iff d held.0).1 held.1),
    λ none. (unstored d, λ q out holds. none (q, (holds_iff d q).0 holds, out)),
  )

  -- each receipt stands
  stands_at_end : (i : Position) (d : Determinant) → IsReceiptAt (log_of es) d i → Stands (log_of es) end i
  stands_at_end i d is = stands dump.members es obeys plain i.member i.number (length (log_of es i.member)) (slice_get_within (log_of es i.member) i.number is.0 is.1)

  -- and leaves the same orphans
  orphan_iff : (members : Members) (q : ℕ) → IsOrphanAt run end members q ↔ IsDumpOrphan (struck_by members dump) q
  orphan_iff members q = (
    λ o.
        let i = o.1.0 in
        let lost = o.1.1.1 in
        (o.0, (receipt_of lost.0, (loses_iff members lost.0).0 lost.2, (depends_same i lost.0 lost.1 q).0 o.1.2)),
    λ o. of_event o.0 o.1.0 o.1.1 o.1.2,
  ) where
    of_event : set.contains members q ≡ false → (e : Mark) → IsLost (struck_by members dump) e → base.Depends dump.events q e → IsOrphanAt run end members q
    of_event out (Send from ssn to) lost depends = absurd lost
    of_event out (Receipt to rsn from ssn) lost depends =
        let d : Determinant = record { from = from; ssn = ssn; to = to; rsn = rsn } in
        let first = Has-first (subst (λ (events : List Mark). base.Depends events q (receipt_of d)) (sym (events_of_dump dump)) depends).1 in
        let f = At-filter_map mark_in es first.0 (receipt_of d) first.1 in
        let at_f = placed es f.0 (Event (receipt_of d)) d.to (f.2 ∙ ap Some (is_mark dump.members es obeys plain f.0 f.1 (receipt_of d) f.2 f.3)) refl in
        let i : Position = at d.to (seen es f.0 d.to) in
        let is : IsReceiptAt (log_of es) d i = (Event (receipt_of d), at_f, refl) in
        (out, (i, (stands_at_end i d is, (d, is, (loses_iff members d).1 lost)), (depends_same i d is q).1 depends))

  -- with one entry more
  one_more : (p : ℕ) (e : Entry) (rest : List Entry) (lost : List LostReceipt) → slice_get es p ≡ Some e
      → ((lost : List LostReceipt) → AreLost (run_of_dump dump) (p + 1) rest lost → determinants lost ≡ filter (λ d. not (is_held_outside dump d)) (receipts_in rest))
      → AreLost (run_of_dump dump) p (e ∷ rest) lost → determinants lost ≡ filter (λ d. not (is_held_outside dump d)) (receipts_in (e ∷ rest))
  one_more p e rest lost here tail are = by_receipt (receipt_in e) refl are where
    by_test : (d : Determinant) (b : Bool) → is_held_outside dump d ≡ b → StandsAt es p (at (entry_member e) (seen es p (entry_member e))) → IsReceiptAt (log_of es) d (at (entry_member e) (seen es p (entry_member e)))
        → AreLost (run_of_dump dump) p (e ∷ rest) lost → determinants lost ≡ filter (λ d. not (is_held_outside dump d)) (d ∷ receipts_in rest)
    by_test d true held at_i is (inl a) = rw held (tail lost a.1)
    by_test d false out at_i is (inl a) = absurd (a.0 (at (entry_member e) (seen es p (entry_member e))) (at_i, (d, is))
        (stands_at_end (at (entry_member e) (seen es p (entry_member e))) d is, (d, is, (loses_iff dump.strike d).1 (λ held. false≢true (sym out ∙ (Decides-is_held_outside dump d).1 held)))))
    by_test d true held at_i is (inr a) = absurd (
        let one = one_position es p a.0 (at (entry_member e) (seen es p (entry_member e))) (subst (λ (q : ℕ). StandsAt es q a.0) a.4 a.5.place) at_i in
        let d' = one_determinant es a.0 a.6.1.0 d a.6.1.1 (subst (λ (i : Position). IsReceiptAt (log_of es) d i) (sym one) is) in
        (loses_iff dump.strike d).0 (subst (λ (d : Determinant). LosesAt run end dump.strike d) d' a.6.1.2) ((Decides-is_held_outside dump d).0 held))
    by_test d false out at_i is (inr a) =
        let one = one_position es p a.0 (at (entry_member e) (seen es p (entry_member e))) (subst (λ (q : ℕ). StandsAt es q a.0) a.4 a.5.place) at_i in
        let same : a.1.determinant ≡ d = one_determinant es a.0 a.1.determinant d a.5.determinant (subst (λ (i : Position). IsReceiptAt (log_of es) d i) (sym one) is) in
        rw out (ap determinants a.3 ∙ (λ x. same x ∷ tail a.2 a.7 x))

    by_receipt : (o : Option Determinant) → receipt_in e ≡ o → AreLost (run_of_dump dump) p (e ∷ rest) lost → determinants lost ≡ filter (λ d. not (is_held_outside dump d)) (cons_option (receipt_in e) (receipts_in rest))
    by_receipt None none (inl a) = rw none (tail lost a.1)
    by_receipt None none (inr a) = absurd (
        let d = a.5.determinant in
        let same = one_entry es p e d.0 here (placed_at es p a.0 d.0 (subst (λ (q : ℕ). StandsAt es q a.0) a.4 a.5.place) d.1) in
        let no' : None ≡ Some a.1.determinant = sym none ∙ ap receipt_in same ∙ d.2 in
        cc)
    by_receipt (Some d) some are =
        let at_i : StandsAt es p (at (entry_member e) (seen es p (entry_member e))) = (e, here, refl, refl) in
        rw some (by_test d (is_held_outside dump d) refl at_i (e, stands_at es p (at (entry_member e) (seen es p (entry_member e))) e at_i here, some) are)

  -- the lost receipts are those that the test keeps
  lost_are : (p : ℕ) (rest : List Entry) (lost : List LostReceipt) → ((k : ℕ) (e : Entry) → slice_get rest k ≡ Some e → slice_get es (p + k) ≡ Some e)
      → AreLost (run_of_dump dump) p rest lost → determinants lost ≡ filter (λ d. not (is_held_outside dump d)) (receipts_in rest)
  lost_are p [] lost there are = ap determinants are
  lost_are p (e ∷ rest) lost there are =
      one_more p e rest lost (subst (λ (k : ℕ). slice_get es k ≡ Some e) (no_more p) (there 0 e refl))
      (λ lost are. lost_are (p + 1) rest lost (λ k x at_k. subst (λ (k : ℕ). slice_get es k ≡ Some x) (moved p k) (there (suc k) x at_k)) are) are
    where
      no_more : (p : ℕ) → p + 0 ≡ p
      no_more p = omega arith

      moved : (p k : ℕ) → p + suc k ≡ (p + 1) + k
      moved p k = omega arith

  pub lost_same : (lost : List LostReceipt) → AreLost (run_of_dump dump) 0 es lost → determinants lost ≡ lost_determinants dump
  lost_same lost are = lost_are 0 es lost (λ k e here. subst (λ (k : ℕ). slice_get es k ≡ Some e) (from_zero k) here) are ∙ ap (λ ds. filter (λ d. not (is_held_outside dump d)) ds) (receipts_of es ∙ ap receipts (events_of_dump dump)) where
    from_zero : (k : ℕ) → k ≡ 0 + k
    from_zero k = omega arith

  pub orphans_same : (q : ℕ) → IsOrphanAt run end dump.strike q ↔ IsDumpOrphan dump q
  orphans_same q = orphan_iff dump.strike q

  safe_iff : IsSafe run ↔ ((members : Members) → MayBeLost run members → (q : ℕ) → ¬ (IsDumpOrphan (struck_by members dump) q))
  safe_iff = (
    λ safe members may q orphan. safe end refl members may q ((orphan_iff members q).1 orphan),
    λ none cut here members may q orphan. none members may q ((orphan_iff members q).0 (subst (λ (cut : Cut). IsOrphanAt run cut members q) here orphan)),
  )

pub dump_law : DumpLaw
dump_law dump is = safe_iff dump is
