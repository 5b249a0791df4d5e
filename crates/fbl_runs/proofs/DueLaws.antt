-- What a pass over the entries of a log with restarts finds of the receipts that stand.
use Rattle.fbl_runs.proofs.Common.{ℕ, zero, suc, Bool, cond, ◌≡◌, ◌<◌, ◌≤◌, ◌+◌, ◌↔◌, inl, inr, List, [], ◌∷◌, length, Option, Some, slice_get, refl, sym, ap, subst, ◌∙◌, arith, cases_lt, nat_tests, slice_get_within, receipt_of, send_of, true}
use Rattle.fbl_runs.proofs.Common.{Determinant, Mark, Send, Receipt, Entry, Event, LaterReceipt, Carries, IsAt, Logs, at, log_of, mark_in, receipt_in, standing}
use Rattle.std.proofs.Common.{count_by, map, nat_eq}
use Rattle.std.specs.Option.{option_and_then}
use Rattle.fbl_trace.specs.Events.{determinant_of}
use Rattle.std.proofs.lemmas.List.Sums.{sum_by-cons}
use Rattle.std.specs.List.{Contains, cons_option}
use Rattle.fbl_runs.specs.declared.lives.Lives.{Lives}
use Rattle.fbl_runs.specs.declared.lives.StandingEvent.{StandingEvent}
use Rattle.fbl_runs.specs.KnownLives.{AreEvents, HasLived}
use Rattle.fbl_runs.specs.LifeRules.{TakesSend}
use Rattle.fbl_runs.specs.Rules.{IsDue, IsReached, IsSentInLife, IsTaken, entries_at}
use Rattle.fbl_runs.proofs.LifeLaws.{contains_from_in, in_from_contains}
use Rattle.fbl_runs.proofs.LeadsLaws.{sent_once}

-- the test of equal numbers
pub same_iff : (a b : ℕ) → (nat_eq a b ≡ true) ↔ (a ≡ b)
same_iff a b = (λ h. grind (arith, nat_tests), λ h. grind (arith, nat_tests))

-- ---- the events that stand

map_get : {X Y : Type 0} (f : X → Y) (xs : List X) (i : ℕ) (x : X) → slice_get xs i ≡ Some x → slice_get (map f xs) i ≡ Some (f x)
map_get f [] i x is = absurd cc
map_get f (y ∷ xs) zero x is = (let same : y ≡ x = cc in ap (λ z. Some (f z)) same)
map_get f (y ∷ xs) (suc i) x is = map_get f xs i x is

get_map : {X Y : Type 0} (f : X → Y) (xs : List X) (i : ℕ) (y : Y) → slice_get (map f xs) i ≡ Some y → (x : X) × (slice_get xs i ≡ Some x) × (f x ≡ y)
get_map f [] i y is = absurd cc
get_map f (x ∷ xs) zero y is = (x, refl, (let same : f x ≡ y = cc in same))
get_map f (x ∷ xs) (suc i) y is = get_map f xs i y is

module _ (log : List Entry) (kept : List ℕ) (events : List StandingEvent) (are : AreEvents log kept events) where
  -- an event that is known stands
  pub event_stands : (i : ℕ) (e : StandingEvent) → slice_get events i ≡ Some e → Contains kept e.number × (slice_get log e.number ≡ Some e.entry)
  event_stands i e is =
      let there = map_get (λ (e : StandingEvent). e.number) events i e is in
      (contains_from_in kept e.number (i, subst (λ (ks : List ℕ). slice_get ks i ≡ Some e.number) are.numbers there), are.entries i e is)

  -- and one that stands is known
  pub event_known : (j : ℕ) → Contains kept j → (i : ℕ) × (e : StandingEvent) × (slice_get events i ≡ Some e) × (e.number ≡ j) × (slice_get log j ≡ Some e.entry)
  event_known j has =
      let there = in_from_contains kept j has in
      let w = get_map (λ (e : StandingEvent). e.number) events there.0 j (subst (λ (ks : List ℕ). slice_get ks there.0 ≡ Some j) (sym are.numbers) there.1) in
      (there.0, w.0, w.1, w.2, ap (slice_get log) (sym w.2) ∙ are.entries there.0 w.0 w.1)

-- so many of them pass a test
count_at : (p : Entry → Bool) (log : List Entry) (events : List StandingEvent) → ((i : ℕ) (e : StandingEvent) → slice_get events i ≡ Some e → slice_get log e.number ≡ Some e.entry)
    → count_by p (entries_at log (map (λ e. e.number) events)) ≡ count_by (λ (e : StandingEvent). p e.entry) events
count_at p log [] are = refl
count_at p log (e ∷ events) are =
    let rest = count_at p log events (λ i. are (suc i)) in
    let others = entries_at log (map (λ (e : StandingEvent). e.number) events) in
    ap (λ (o : Option Entry). count_by p (cons_option o others)) (are 0 e refl) ∙ sum_by-cons (λ x. cond (p x) 1 0) e.entry others ∙ ap (λ n. cond (p e.entry) 1 0 + n) rest
    ∙ sym (sum_by-cons (λ (e : StandingEvent). cond (p e.entry) 1 0) e events)

pub count_standing : (p : Entry → Bool) (log : List Entry) (kept : List ℕ) (events : List StandingEvent) → AreEvents log kept events → count_by p (entries_at log kept) ≡ count_by (λ (e : StandingEvent). p e.entry) events
count_standing p log kept events are = ap (λ ks. count_by p (entries_at log ks)) (sym are.numbers) ∙ count_at p log events are.entries

-- ---- receipts

-- a receipt that has a determinant has its mark
pub mark_of_receipt : (e : Entry) (d : Determinant) → receipt_in e ≡ Some d → mark_in e ≡ Some (receipt_of d)
mark_of_receipt (Event (Receipt to rsn from ssn)) d is = (let same : record { from = from; ssn = ssn; to = to; rsn = rsn } ≡ d = cc in ap (λ (x : Determinant). Some (receipt_of x)) same)
mark_of_receipt (LaterReceipt x life) d is = (let same : x ≡ d = cc in ap (λ (x : Determinant). Some (receipt_of x)) same)
mark_of_receipt e d is = absurd cc

-- what takes a send is a receipt of its message
pub takes_message : (r : Mark) (from ssn to : ℕ) → send_of r ≡ Some (Send from ssn to) → (rsn : ℕ) × (r ≡ Receipt to rsn from ssn)
takes_message (Send from' ssn' to') from ssn to is = absurd cc
takes_message (Receipt to' rsn from' ssn') from ssn to is =
    let same : Send from' ssn' to' ≡ Send from ssn to = cc in
    let a : from' ≡ from = cc in
    let b : ssn' ≡ ssn = cc in
    let c : to' ≡ to = cc in
    (rsn, λ t. Receipt (c t) rsn (a t) (b t))

pub carries_takes : (logs : Logs) (from k to j : ℕ) → Carries logs (at from k) (at to j) ↔ ((b : Entry) × IsAt logs (at to j) b × TakesSend logs from k b)
carries_takes logs from k to j = (
  λ c. (c.2, c.4, (c.0, c.1, c.3, c.5, c.6, c.7)),
  λ t. (t.2.0, t.2.1, t.0, t.2.2, t.1, t.2.3, t.2.4, t.2.5),
)

-- a receipt of the member, among its events that stand, takes the send
abbrev pub TakesAmong : Logs → ℕ → ℕ → List StandingEvent → ℕ → Type 0
TakesAmong logs from k events n = (i : ℕ) × (e : StandingEvent) × (i < n) × (slice_get events i ≡ Some e) × TakesSend logs from k e.entry

pub taken_iff : (logs : Logs) (from to k : ℕ) (events : List StandingEvent) (n : ℕ) → AreEvents (logs to) (standing (logs to)) events → length events ≤ n → TakesAmong logs from k events n ↔ IsTaken logs from to k
taken_iff logs from to k events n are all = (
  λ t.
      let there = event_stands (logs to) (standing (logs to)) events are t.0 t.1 t.3 in
      (t.1.number, there.0, (carries_takes logs from k to t.1.number).1 (t.1.entry, there.1, t.4)),
  λ taken.
      let w = event_known (logs to) (standing (logs to)) events are taken.0 taken.1 in
      let c = (carries_takes logs from k to taken.0).0 taken.2 in
      let same : c.0 ≡ w.1.entry = (let some : Some c.0 ≡ Some w.1.entry = sym c.1 ∙ w.4 in cc) in
      (w.0, w.1, (let within = slice_get_within events w.0 w.1 w.2 in omega (arith, within, all)), w.2, subst (TakesSend logs from k) same c.2),
)

-- and one of them takes a message of the sender whose number is at least this
abbrev pub ReachesAmong : ℕ → ℕ → List StandingEvent → ℕ → Type 0
ReachesAmong from ssn events n = (i : ℕ) × (e : StandingEvent) × (d : Determinant) × (i < n) × (slice_get events i ≡ Some e) × (receipt_in e.entry ≡ Some d) × (d.from ≡ from) × (ssn ≤ d.ssn)

pub reached_iff : (logs : Logs) (from to ssn : ℕ) (events : List StandingEvent) (n : ℕ) → AreEvents (logs to) (standing (logs to)) events → length events ≤ n → ReachesAmong from ssn events n ↔ IsReached logs from to ssn
reached_iff logs from to ssn events n are all = (
  λ r. (let there = event_stands (logs to) (standing (logs to)) events are r.0 r.1 r.4 in (r.1.number, r.1.entry, r.2, there.0, there.1, r.5, r.6, r.7)),
  λ reached.
      let w = event_known (logs to) (standing (logs to)) events are reached.0 reached.3 in
      let same : reached.1 ≡ w.1.entry = (let some : Some reached.1 ≡ Some w.1.entry = sym reached.4 ∙ w.4 in cc) in
      (w.0, w.1, reached.2, (let within = slice_get_within events w.0 w.1 w.2 in omega (arith, within, all)), w.2, ap receipt_in (sym same) ∙ reached.5, reached.6, reached.7),
)

-- what is taken is reached, by its number
pub taken_reached : (logs : Logs) (from to k ssn : ℕ) → IsAt logs (at from k) (Event (Send from ssn to)) → IsTaken logs from to k → IsReached logs from to ssn
taken_reached logs from to k ssn here taken =
    let c = taken.2 in
    let sent : c.0 ≡ Send from ssn to = (let some : Some (Event c.0) ≡ Some (Event (Send from ssn to)) = sym c.3 ∙ here in cc) in
    let r = takes_message c.1 from ssn to (c.6 ∙ ap Some sent) in
    let d : Determinant = record { from = from; ssn = ssn; to = to; rsn = r.0 } in
    let is : receipt_in c.2 ≡ Some d = receipt_of_mark c.2 d (c.5 ∙ ap Some r.1) in
    (taken.0, c.2, d, taken.1, c.4, is, refl, omega arith)
  where
    receipt_of_mark : (e : Entry) (d : Determinant) → mark_in e ≡ Some (receipt_of d) → receipt_in e ≡ Some d
    receipt_of_mark e d is = ap (option_and_then determinant_of) is

-- the message is due where no send of its life that is not reached is before it
pub due_iff : (logs : Logs) (from ssn to life send end : ℕ) → IsSentInLife logs from ssn to life send → ¬ (IsTaken logs from to send) → ((number : ℕ) → IsReached logs from to number ↔ (number < end))
    → ((number : ℕ) → end ≤ number → number < ssn → (k : ℕ) → ¬ (IsSentInLife logs from number to life k)) → IsDue logs from ssn to life
due_iff logs from ssn to life send end sent untaken reached none = record {
  send = send;
  sent = sent;
  untaken = untaken;
  next = λ number k below is. elim (cases_lt number end) [ inl early ↦ inr ((reached number).1 early) | inr late ↦ absurd (none number late below k is) ];
}

pub not_due : (logs : Logs) (from ssn to life end number k : ℕ) → ((number : ℕ) → IsReached logs from to number ↔ (number < end)) → end ≤ number → number < ssn → IsSentInLife logs from number to life k → ¬ (IsDue logs from ssn to life)
not_due logs from ssn to life end number k reached late below sent due =
    let is : IsReached logs from to number = elim (due.next number k below sent) [ inl taken ↦ taken_reached logs from to k number sent.0 taken | inr there ↦ there ] in
    let early = (reached number).0 is in
    omega (arith, early, late)

-- one send of the message stands in the life
pub one_sent : (before : List Entry) (known : Lives) → HasLived before known → (from ssn to life a b : ℕ) → IsSentInLife (log_of before) from ssn to life a → IsSentInLife (log_of before) from ssn to life b → a ≡ b
one_sent before known has from ssn to life a b first second = sent_once has.lawful.0 before has.lawful.1 life a b from from ssn to from to first.0 second.0 first.1 second.1
