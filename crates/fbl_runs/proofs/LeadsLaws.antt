-- What leads to an entry stands before it in the list, and what its message comes from is one entry.
use Rattle.fbl_runs.proofs.Common.{ℕ, ◌≡◌, ◌<◌, ◌≤◌, ◌+◌, inl, inr, List, ◌++◌, length, take, drop, Some, None, slice_get, refl, sym, ap, subst, ◌∙◌, arith}
use Rattle.fbl_runs.proofs.Common.{cases_lt, cases_order, length-take, slice_get_within, slice_get-take, take-append-drop, filter-append}
use Rattle.fbl_runs.proofs.Common.{Mark, Send, Receipt, Determinant, Entry, Event, LaterReceipt, Restart, Tell, Told, mark_in, named_life, send_of}
use Rattle.fbl_runs.proofs.Common.{Causality, Dependence, HappenedBefore, Begins, Carries, IsAt, IsEarlier, Leads, Position, Precedes, Tells, at, itself, step, entry_member, is_at, log_of}
use Rattle.std.proofs.lemmas.List.{take-take, take_at}
use Rattle.fbl_runs.specs.Clocks.{StandsAt, seen}
use Rattle.fbl_runs.specs.ControlMessages.{AreTold, MayBeTold}
use Rattle.fbl_runs.specs.Lives.{StandsBehind, StandsInLife, life_in}
use Rattle.fbl_runs.specs.Rules.{AreLawful, IsLawful, IsSentInLife, sends_standing}
use Rattle.fbl_runs.proofs.ControlLaws.{told_before, tell_once}
use Rattle.fbl_runs.proofs.LifeLaws.{LivesRise, begun_once, get_from_take, life_le}
use Rattle.fbl_runs.proofs.Listing.{locate_all, seen_mono, seen-later, stands_at}
use Rattle.fbl_runs.proofs.SendLaws.{SendsNumbered, one_in_life}

-- ---- positions

pub same_position : (i j : Position) → i.member ≡ j.member → i.number ≡ j.number → i ≡ j
same_position i j member number = λ t. record { member = member t; number = number t }

-- the entry at a place stands at a position
pub here_stands : (entries : List Entry) (p : ℕ) (e : Entry) → slice_get entries p ≡ Some e → StandsAt entries p (at (entry_member e) (seen entries p (entry_member e)))
here_stands entries p e here = (e, here, refl, refl)

-- and at one
pub one_position : (entries : List Entry) (p : ℕ) (i j : Position) → StandsAt entries p i → StandsAt entries p j → i ≡ j
one_position entries p i j at_i at_j =
    let same : at_i.0 ≡ at_j.0 = (let s : Some at_i.0 ≡ Some at_j.0 = sym at_i.1 ∙ at_j.1 in cc) in
    let member : i.member ≡ j.member = sym at_i.2 ∙ ap entry_member same ∙ at_j.2 in
    same_position i j member (sym at_i.3 ∙ ap (seen entries p) member ∙ at_j.3)

not_later : (entries : List Entry) (p q : ℕ) (i : Position) → StandsAt entries p i → StandsAt entries q i → p < q → ⊥
not_later entries p q i at_p at_q before = (let more = seen-later entries p q i.member at_p.0 at_p.1 at_p.2 before in omega (arith, more, at_p.3, at_q.3))

-- and a position is that of one place
pub one_place_of : (entries : List Entry) (p q : ℕ) (i : Position) → StandsAt entries p i → StandsAt entries q i → p ≡ q
one_place_of entries p q i at_p at_q = elim (cases_order p q) [
  | inl same ↦ same
  | inr (inl below) ↦ absurd (not_later entries p q i at_p at_q below)
  | inr (inr above) ↦ absurd (not_later entries q p i at_q at_p above)
]

-- the entry of a position that stands at a place is there
pub there_at : (entries : List Entry) (p : ℕ) (i : Position) → StandsAt entries p i → (e : Entry) × IsAt (log_of entries) i e
there_at entries p i stands = (stands.0, stands_at entries p i stands.0 stands stands.1)

-- and what stands at a position, at a place
pub stands_somewhere : (entries : List Entry) (i : Position) (e : Entry) → IsAt (log_of entries) i e → (p : ℕ) × (slice_get entries p ≡ Some e) × StandsAt entries p i
stands_somewhere entries i e is = (let r = locate_all entries i.member i.number e is in (r.0, r.2, (e, r.2, r.3, r.4)))

-- at one place
pub places_order : (entries : List Entry) (p q : ℕ) (i j : Position) → StandsAt entries p i → StandsAt entries q j → i.member ≡ j.member → i.number < j.number → p < q
places_order entries p q i j at_i at_j member less = elim (cases_lt p q) [
  | inl before ↦ before
  | inr after ↦ absurd (
      let mono = seen_mono entries q p j.member after in
      let a : seen entries p j.member ≡ i.number = ap (seen entries p) (sym member) ∙ at_i.3 in
      let b = at_j.3 in
      omega (arith, mono, a, b, less))
]

-- the entries of a member among the first p are the first of its log
pub log_of_front : (entries : List Entry) (p m : ℕ) → log_of (take p entries) m ≡ take (seen entries p m) (log_of entries m)
log_of_front entries p m =
    let front = log_of (take p entries) m in
    let whole : log_of entries m ≡ front ++ log_of (drop p entries) m = ap (λ t. log_of t m) (sym (take-append-drop p entries)) ∙ filter-append (is_at m) (take p entries) (drop p entries) in
    sym (ap (take (length front)) whole ∙ take_at front (log_of (drop p entries) m) (length front) refl)

-- ---- in a front of a log

-- what stands behind some of the first y entries does so in the whole log
pub stands_in_whole : (log : List Entry) (y k x : ℕ) → x ≤ y → StandsBehind (take y log) k x → StandsBehind log k x
stands_in_whole log y k x within stands = (
  stands.0,
  λ number r past below is.
      let front : slice_get (take y log) number ≡ Some (Restart r) = slice_get-take log y number (Restart r) (omega (arith, below, within)) is in
      let same : take (number + 1) (take y log) ≡ take (number + 1) log = take-take (number + 1) y log (omega (arith, below, within)) in
      (rw same at (stands.1 number r past below front)),
)

pub in_life_in_whole : (log : List Entry) (y life k : ℕ) → StandsInLife (take y log) life k → StandsInLife log life k
in_life_in_whole log y life k is =
    let x = is.0 in
    let size = length-take y log in
    let w = is.1 in
    let within : x ≤ y = omega (arith, w, size) in
    (x, omega (arith, w, size), (rw (take-take x y log within) at is.2), stands_in_whole log y k x within is.3)

-- ---- what the rules say of each log

module _ (n : ℕ) (entries : List Entry) (lawful : AreLawful n entries) where
  pub are_told : AreTold n entries
  are_told i e here = by_entry e (lawful i e here) where
    by_entry : (e : Entry) → IsLawful n (take i entries) e → MayBeTold n (take i entries) e
    by_entry (Tell m) is = is
    by_entry (Told m) is = is
    by_entry e is = tt

  -- the rules at a position
  lawful_at : (q k : ℕ) (e : Entry) → IsAt (log_of entries) (at q k) e → (p : ℕ) × (slice_get entries p ≡ Some e) × (entry_member e ≡ q) × (log_of (take p entries) q ≡ take k (log_of entries q)) × IsLawful n (take p entries) e
  lawful_at q k e is =
      let r = locate_all entries q k e is in
      (r.0, r.2, r.3, log_of_front entries r.0 q ∙ ap (λ x. take x (log_of entries q)) r.4, lawful r.0 e r.2)

  pub lives_rise : (q : ℕ) → LivesRise (log_of entries q)
  lives_rise q k r is =
      let w = lawful_at q k (Restart r) is in
      let member : r.member ≡ q = w.2 in
      let front : life_in (log_of (take w.0 entries) q) < r.life = subst (λ (m : ℕ). life_in (log_of (take w.0 entries) m) < r.life) member w.4.0 in
      (rw w.3 at front)

  pub sends_numbered : (q : ℕ) → SendsNumbered (log_of entries q)
  sends_numbered q k from ssn to is =
      let w = lawful_at q k (Event (Send from ssn to)) is in
      let member : from ≡ q = w.2 in
      let front : ssn ≡ sends_standing (log_of (take w.0 entries) q) + 1 = subst (λ (m : ℕ). ssn ≡ sends_standing (log_of (take w.0 entries) m) + 1) member w.4 in
      (rw w.3 at front)

  -- a message is sent by one entry that stands in the life
  pub sent_once : (life a b q from ssn to from' to' : ℕ) → IsAt (log_of entries) (at q a) (Event (Send from ssn to)) → IsAt (log_of entries) (at q b) (Event (Send from' ssn to'))
      → StandsInLife (log_of entries q) life a → StandsInLife (log_of entries q) life b → a ≡ b
  sent_once life a b q from ssn to from' to' at_a at_b in_a in_b = one_in_life (log_of entries q) (sends_numbered q) (lives_rise q) life a b from ssn to from' to' at_a at_b in_a in_b

  -- ---- messages

  send_member : (i : Position) (s r : Mark) → send_of r ≡ Some s → IsAt (log_of entries) i (Event s) → (from : ℕ) × (ssn : ℕ) × (to : ℕ) × (s ≡ Send from ssn to)
  send_member i s (Send from ssn to) takes is = (let some : None ≡ Some s = takes in absurd cc)
  send_member i s (Receipt to rsn from ssn) takes is = (from, ssn, to, (let some : Some (Send from ssn to) ≡ Some s = takes in cc))

  -- the send of what the receipt at the place takes stands before it, in the life that it names
  pub sent_before : (p : ℕ) (e : Entry) (r s : Mark) → slice_get entries p ≡ Some e → mark_in e ≡ Some r → send_of r ≡ Some s
      → (i : Position) × (q : ℕ) × (q < p) × (slice_get entries q ≡ Some (Event s)) × StandsAt entries q i × StandsInLife (log_of entries i.member) (named_life e) i.number
  sent_before p e r s here is takes = by_entry e here is where
    found : (from ssn to life k : ℕ) → Send from ssn to ≡ s → IsSentInLife (log_of (take p entries)) from ssn to life k
        → (i : Position) × (q : ℕ) × (q < p) × (slice_get entries q ≡ Some (Event s)) × StandsAt entries q i × StandsInLife (log_of entries i.member) life i.number
    found from ssn to life k same sent =
        let y = seen entries p from in
        let log = log_of entries from in
        let front : log_of (take p entries) from ≡ take y log = log_of_front entries p from in
        let there : slice_get (take y log) k ≡ Some (Event (Send from ssn to)) = (rw front at sent.0) in
        let at_k : slice_get log k ≡ Some (Event (Send from ssn to)) = get_from_take y log k (Event (Send from ssn to)) there in
        let place = stands_somewhere entries (at from k) (Event (Send from ssn to)) at_k in
        let within : k < y = (let w = slice_get_within (take y log) k (Event (Send from ssn to)) there in omega (arith, w, length-take y log)) in
        let before : place.0 < p = (elim (cases_lt place.0 p) [
          | inl less ↦ less
          | inr more ↦ absurd (let mono = seen_mono entries p place.0 from more in let number = place.2.3 in omega (arith, mono, number, within))
        ]) in
        (at from k, place.0, before, place.1 ∙ ap (λ m. Some (Event m)) same, place.2, in_life_in_whole log y life k (rw front at sent.1))

    by_entry : (x : Entry) → slice_get entries p ≡ Some x → mark_in x ≡ Some r → (i : Position) × (q : ℕ) × (q < p) × (slice_get entries q ≡ Some (Event s)) × StandsAt entries q i × StandsInLife (log_of entries i.member) (named_life x) i.number
    by_entry (Event (Send from ssn to)) at_p mark = (let none : None ≡ Some s = (let same : Send from ssn to ≡ r = (let some : Some (Send from ssn to) ≡ Some r = mark in cc) in ap send_of same ∙ takes) in absurd cc)
    by_entry (Event (Receipt to rsn from ssn)) at_p mark =
        let same : Receipt to rsn from ssn ≡ r = (let some : Some (Receipt to rsn from ssn) ≡ Some r = mark in cc) in
        let send : Send from ssn to ≡ s = (let some : Some (Send from ssn to) ≡ Some s = ap send_of same ∙ takes in cc) in
        let sent = lawful p (Event (Receipt to rsn from ssn)) at_p in
        found from ssn to 0 sent.0 send sent.1
    by_entry (LaterReceipt d life) at_p mark =
        let same : Receipt d.to d.rsn d.from d.ssn ≡ r = (let some : Some (Receipt d.to d.rsn d.from d.ssn) ≡ Some r = mark in cc) in
        let send : Send d.from d.ssn d.to ≡ s = (let some : Some (Send d.from d.ssn d.to) ≡ Some s = ap send_of same ∙ takes in cc) in
        let sent = lawful p (LaterReceipt d life) at_p in
        found d.from d.ssn d.to life sent.0 send sent.1
    by_entry e at_p mark = (let none : None ≡ Some r = mark in absurd cc)

  -- a receipt takes a message from one entry
  pub carries_one : (i k j : Position) → Carries (log_of entries) i j → Carries (log_of entries) k j → i ≡ k
  carries_one i k j a b =
      let entry : a.2 ≡ b.2 = (let some : Some a.2 ≡ Some b.2 = sym a.4 ∙ b.4 in cc) in
      let mark : a.1 ≡ b.1 = (let some : Some a.1 ≡ Some b.1 = sym a.5 ∙ ap mark_in entry ∙ b.5 in cc) in
      let send : a.0 ≡ b.0 = (let some : Some a.0 ≡ Some b.0 = sym a.6 ∙ ap send_of mark ∙ b.6 in cc) in
      let s = send_member i a.0 a.1 a.6 a.3 in
      let at_i : IsAt (log_of entries) i (Event (Send s.0 s.1 s.2)) = a.3 ∙ ap (λ m. Some (Event m)) s.3 in
      let at_k : IsAt (log_of entries) k (Event (Send s.0 s.1 s.2)) = b.3 ∙ ap (λ m. Some (Event m)) (sym send ∙ s.3) in
      let p = locate_all entries i.member i.number (Event (Send s.0 s.1 s.2)) at_i in
      let q = locate_all entries k.member k.number (Event (Send s.0 s.1 s.2)) at_k in
      let member : i.member ≡ k.member = sym p.3 ∙ q.3 in
      let life : named_life b.2 ≡ named_life a.2 = ap named_life (sym entry) in
      let at_k' : IsAt (log_of entries) (at i.member k.number) (Event (Send s.0 s.1 s.2)) = subst (λ (m : ℕ). slice_get (log_of entries m) k.number ≡ Some (Event (Send s.0 s.1 s.2))) (sym member) at_k in
      let in_k : StandsInLife (log_of entries k.member) (named_life a.2) k.number = subst (λ (l : ℕ). StandsInLife (log_of entries k.member) l k.number) life b.7 in
      let in_k' : StandsInLife (log_of entries i.member) (named_life a.2) k.number = subst (λ (m : ℕ). StandsInLife (log_of entries m) (named_life a.2) k.number) (sym member) in_k in
      same_position i k member (sent_once (named_life a.2) i.number k.number i.member s.0 s.1 s.2 s.0 s.2 at_i at_k' a.7 in_k')

  -- and a receipt's message is carried to it
  pub carried : (p : ℕ) (j : Position) (e : Entry) (r s : Mark) → StandsAt entries p j → slice_get entries p ≡ Some e → mark_in e ≡ Some r → send_of r ≡ Some s
      → (i : Position) × (q : ℕ) × (q < p) × StandsAt entries q i × Carries (log_of entries) i j
  carried p j e r s stands here is takes =
      let sent = sent_before p e r s here is takes in
      (sent.0, sent.1, sent.2, sent.4, (s, r, e, stands_at entries sent.1 sent.0 (Event s) sent.4 sent.3, stands_at entries p j e stands here, is, takes, sent.5))

  -- ---- what leads to an entry stands before it

  pub earlier_before : (p q : ℕ) (i j : Position) → StandsAt entries p i → StandsAt entries q j → IsEarlier (log_of entries) i j → p < q
  earlier_before p q i j at_p at_q earlier = places_order entries p q i j at_p at_q earlier.4 earlier.5

  pub carries_before : (p q : ℕ) (i j : Position) → StandsAt entries p i → StandsAt entries q j → Carries (log_of entries) i j → p < q
  carries_before p q i j at_p at_q c =
      let here : slice_get entries q ≡ Some c.2 = at_q.1 ∙ ap Some (let some : Some at_q.0 ≡ Some c.2 = sym (stands_at entries q j at_q.0 at_q at_q.1) ∙ c.4 in cc) in
      let w = carried q j c.2 c.1 c.0 at_q here c.5 c.6 in
      let same : w.0 ≡ i = carries_one w.0 i j w.4 c in
      let place : w.1 ≡ p = one_place_of entries w.1 p i (subst (λ (i : Position). StandsAt entries w.1 i) same w.3) at_p in
      (let before = w.2 in omega (arith, before, place))

  -- a member is told what was told before
  pub tells_one : (i k j : Position) → Tells (log_of entries) i j → Tells (log_of entries) k j → i ≡ k
  tells_one i k j a b =
      let told : a.0 ≡ b.0 = (let some : Some (Told a.0) ≡ Some (Told b.0) = sym a.2 ∙ b.2 in cc) in
      let at_k : IsAt (log_of entries) k (Tell a.0) = b.1 ∙ ap (λ m. Some (Tell m)) (sym told) in
      let p = locate_all entries i.member i.number (Tell a.0) a.1 in
      let q = locate_all entries k.member k.number (Tell a.0) at_k in
      let place : p.0 ≡ q.0 = tell_once n entries are_told p.0 q.0 a.0 p.2 q.2 in
      let member : i.member ≡ k.member = sym p.3 ∙ q.3 in
      same_position i k member (sym p.4 ∙ ap (λ x. seen entries x i.member) place ∙ ap (seen entries q.0) member ∙ q.4)

  pub tells_before : (p q : ℕ) (i j : Position) → StandsAt entries p i → StandsAt entries q j → Tells (log_of entries) i j → p < q
  tells_before p q i j at_p at_q t =
      let here : slice_get entries q ≡ Some (Told t.0) = at_q.1 ∙ ap Some (let some : Some at_q.0 ≡ Some (Told t.0) = sym (stands_at entries q j at_q.0 at_q at_q.1) ∙ t.2 in cc) in
      let there : slice_get entries p ≡ Some (Tell t.0) = at_p.1 ∙ ap Some (let some : Some at_p.0 ≡ Some (Tell t.0) = sym (stands_at entries p i at_p.0 at_p at_p.1) ∙ t.1 in cc) in
      let w = told_before n entries are_told q t.0 here in
      let place : w.0 ≡ p = tell_once n entries are_told w.0 p t.0 w.2 there in
      (let before = w.1 in omega (arith, before, place))

  -- the life that a receipt names began
  pub life_named : (p : ℕ) (d : Determinant) (life : ℕ) → slice_get entries p ≡ Some (LaterReceipt d life) → (x : ℕ) × (x ≤ seen entries p d.from) × (life_in (take x (log_of entries d.from)) ≡ life)
  life_named p d life here =
      let sent = lawful p (LaterReceipt d life) here in
      let y = seen entries p d.from in
      let front : log_of (take p entries) d.from ≡ take y (log_of entries d.from) = log_of_front entries p d.from in
      let within : StandsInLife (take y (log_of entries d.from)) life sent.0 = (rw front at sent.1.1) in
      let x = within.0 in
      let before : x ≤ y = (let w = within.1 in let size = length-take y (log_of entries d.from) in omega (arith, w, size)) in
      (x, before, (rw (take-take x y (log_of entries d.from) before) at within.2))

  pub begins_one : (i k j : Position) → Begins (log_of entries) i j → Begins (log_of entries) k j → i ≡ k
  begins_one i k j a b =
      let same : LaterReceipt a.1 a.0.life ≡ LaterReceipt b.1 b.0.life = (let some : Some (LaterReceipt a.1 a.0.life) ≡ Some (LaterReceipt b.1 b.0.life) = sym a.3 ∙ b.3 in cc) in
      let d : a.1 ≡ b.1 = cc in
      let life : a.0.life ≡ b.0.life = cc in
      let member : i.member ≡ k.member = sym a.4 ∙ ap (λ d. d.from) d ∙ b.4 in
      let at_k : slice_get (log_of entries i.member) k.number ≡ Some (Restart b.0) = subst (λ (m : ℕ). slice_get (log_of entries m) k.number ≡ Some (Restart b.0)) (sym member) b.2 in
      same_position i k member (begun_once (log_of entries i.member) (lives_rise i.member) i.number k.number a.0 b.0 a.2 at_k life)

  pub begins_before : (p q : ℕ) (i j : Position) → StandsAt entries p i → StandsAt entries q j → Begins (log_of entries) i j → p < q
  begins_before p q i j at_p at_q b =
      let r = b.0 in
      let here : slice_get entries q ≡ Some (LaterReceipt b.1 r.life) = at_q.1 ∙ ap Some (let some : Some at_q.0 ≡ Some (LaterReceipt b.1 r.life) = sym (stands_at entries q j at_q.0 at_q at_q.1) ∙ b.3 in cc) in
      let named = life_named q b.1 r.life here in
      let log = log_of entries i.member in
      let life : life_in (take named.0 log) ≡ r.life = subst (λ (m : ℕ). life_in (take named.0 (log_of entries m)) ≡ r.life) b.4 named.2 in
      let within : named.0 ≤ seen entries q i.member = subst (λ (m : ℕ). named.0 ≤ seen entries q m) b.4 named.1 in
      elim (cases_lt p q) [
        | inl before ↦ before
        | inr after ↦ absurd (
            let mono = seen_mono entries q p i.member after in
            let number = at_p.3 in
            let rise = lives_rise i.member in
            let more = rise i.number r b.2 in
            let le = life_le log rise named.0 i.number (omega (arith, within, mono, number)) in
            omega (arith, more, le, life))
      ]

  -- what leads to an entry at once stands before it in the list
  pub leads_before : (c : Causality) (p q : ℕ) (i j : Position) → StandsAt entries p i → StandsAt entries q j → Leads c (log_of entries) i j → p < q
  leads_before HappenedBefore p q i j at_p at_q leads = elim leads [
    | inl earlier ↦ earlier_before p q i j at_p at_q earlier
    | inr (inl carries) ↦ carries_before p q i j at_p at_q carries
    | inr (inr (inl tells)) ↦ tells_before p q i j at_p at_q tells
    | inr (inr (inr begins)) ↦ begins_before p q i j at_p at_q begins
  ]
  leads_before Dependence p q i j at_p at_q leads = elim leads [
    | inl stood ↦ earlier_before p q i j at_p at_q stood.0
    | inr carries ↦ carries_before p q i j at_p at_q carries
  ]

  -- both stand somewhere
  pub leads_at : (c : Causality) (i j : Position) → Leads c (log_of entries) i j → ((p : ℕ) × StandsAt entries p i) × ((q : ℕ) × StandsAt entries q j)
  leads_at HappenedBefore i j leads = elim leads [
    | inl earlier ↦ (placed_at i earlier.0 earlier.2, placed_at j earlier.1 earlier.3)
    | inr (inl carries) ↦ (placed_at i (Event carries.0) carries.3, placed_at j carries.2 carries.4)
    | inr (inr (inl tells)) ↦ (placed_at i (Tell tells.0) tells.1, placed_at j (Told tells.0) tells.2)
    | inr (inr (inr begins)) ↦ (placed_at i (Restart begins.0) begins.2, placed_at j (LaterReceipt begins.1 begins.0.life) begins.3)
  ] where
    placed_at : (i : Position) (e : Entry) → IsAt (log_of entries) i e → (p : ℕ) × StandsAt entries p i
    placed_at i e is = (let r = stands_somewhere entries i e is in (r.0, r.2))
  leads_at Dependence i j leads = elim leads [
    | inl stood ↦ (placed_at i stood.0.0 stood.0.2, placed_at j stood.0.1 stood.0.3)
    | inr carries ↦ (placed_at i (Event carries.0) carries.3, placed_at j carries.2 carries.4)
  ] where
    placed_at : (i : Position) (e : Entry) → IsAt (log_of entries) i e → (p : ℕ) × StandsAt entries p i
    placed_at i e is = (let r = stands_somewhere entries i e is in (r.0, r.2))

  -- so what precedes an entry stands before it, or is it
  pub precedes_before : (c : Causality) (i j : Position) → Precedes c (log_of entries) i j → (p : ℕ) × (q : ℕ) × StandsAt entries p i × StandsAt entries q j × (p ≤ q)
  precedes_before c i j (itself is) = (let r = stands_somewhere entries i _ is in (r.0, r.0, r.2, r.2, omega arith))
  precedes_before c i j (step {j = k} path leads) =
      let front = precedes_before c i k path in
      let last = leads_at c k j leads in
      let more = leads_before c last.0.0 last.1.0 k j last.0.1 last.1.1 leads in
      let same = one_place_of entries front.1 last.0.0 k front.3 last.0.1 in
      (front.0, last.1.0, front.2, last.1.1, (let le = front.4 in omega (arith, le, more, same)))
