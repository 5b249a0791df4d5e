-- Which entries are those of a run.
use Rattle.std.specs.Option.{is_some}
use Rattle.fbl_runs.proofs.Common.{Bool, Option, None, true, false, ℕ, zero, suc, ◌≡◌, ◌<◌, ◌≤◌, ◌+◌, ◌↔◌, ◌⊎◌, inl, inr, List, [], ◌∷◌, ◌++◌, length, Some, slice_get, refl, sym, ap, subst, ◌∙◌, arith, take, append-nil, take-more, filter_map, filter_map-append, length-append}
use Rattle.fbl_runs.proofs.Common.{cases_lt, slice_get_within, receipt_of, Determinant, Mark, Send, Receipt, Entry, Event, LaterReceipt, Restart, Tell, Told, entry_member, log_of, mark_in, marks, recorded_in, at, IsKnownTo, HappenedBefore}
use Rattle.fbl_trace.specs.Dumps.{IsDump, Parts}
use Rattle.fbl_trace.proofs.DumpLaws.{member_below}
use Rattle.std.proofs.Common.{map}
use Rattle.std.specs.List.{list_any}
use Rattle.fbl_trace.specs.Configs.{FAllowed, MembersAllowed}
use Rattle.fbl_trace.specs.MemberSets.{AllBelow}
use Rattle.fbl_runs.specs.declared.fault.RecordRule.{RecordRule}
use Rattle.fbl_runs.specs.declared.fault.RecordRule.TheVariants.{NotBefore, Outside, TooMany}
use Rattle.fbl_runs.specs.Clocks.{seen}
use Rattle.fbl_runs.specs.ControlMessages.{MayBeTold}
use Rattle.fbl_runs.specs.Lawful.{BreaksAt, IsKnownAt, ObeysAt, records}
use Rattle.fbl_trace.specs.declared.dump.refusal.DumpRefusal.{DumpRefusal}
use Rattle.fbl_trace.specs.Configs.{IsFirstBreach}
use Rattle.fbl_runs.specs.declared.fault.LogBreach.{LogBreach}
use Rattle.fbl_runs.specs.declared.fault.RecordFault.{RecordFault}
use Rattle.fbl_runs.specs.Lawful.{IsFirstBad}
use Rattle.fbl_runs.specs.Logs.{FollowRules, IsBreachBy, IsLog, IsLogBreach, IsRun, RefusesBy, RefusesLog, RunParts, hold_of, run_of_dump}
use Rattle.fbl_runs.specs.Rules.{AreLawful, FollowsAt, IsLawful, MayFollow, has_life, have_lives}
use Rattle.fbl_runs.proofs.Common.{IsAt, IsReceiptAt, Position, Precedes, itself, step, receipt_in, cases_eq}
use Rattle.fbl_runs.specs.Clocks.{StandsAt}
use Rattle.fbl_runs.specs.Receipts.{IsFirstReceipt, IsReceiptPlace}
use Rattle.fbl_runs.proofs.ClockLaws.{Precedes-joined}
use Rattle.fbl_runs.proofs.Common.{length-take}
use Rattle.fbl_trace.proofs.Gets.{length-filter_map}
use Rattle.fbl_runs.proofs.LeadsLaws.{here_stands, one_position}
use Rattle.fbl_runs.proofs.Listing.{locate_all, seen-later, stands_at}
pub use Rattle.fbl_runs.proofs.PlainLaws.{lawful_plain}

-- ---- the rules of a run

-- an entry that breaks no rule of lives may follow in a run
pub lawful_next : (n : ℕ) (before : List Entry) (e : Entry) → MayFollow n before e → IsLawful n before e
lawful_next n before (Event (Send from ssn to)) may = (may.0 (Send from ssn to) refl).2
lawful_next n before (Event (Receipt to rsn from ssn)) may = (let due = (may.0 (Receipt to rsn from ssn) refl).3 in (due.send, due.sent))
lawful_next n before (LaterReceipt d life) may = (let due = (may.0 (receipt_of d) refl).3 in (due.send, due.sent))
lawful_next n before (Restart r) may = (let m = may.1 r refl in (m.2, m.0))
lawful_next n before (Tell m) may = may.2
lawful_next n before (Told m) may = may.2
lawful_next n before e may = tt

-- where each entry breaks none, the entries are those of a run
pub lawful_lives : (n : ℕ) (entries : List Entry) → ((i : ℕ) → FollowsAt n entries i) → AreLawful n entries
lawful_lives n entries follows p e here = lawful_next n (take p entries) e (follows p e here)

-- what follows the rules, by the case, is lawful
pub lawful_by : (log : RunParts) (lived : Bool) → have_lives log.entries ≡ lived → FollowRules log lived → AreLawful log.members log.entries
lawful_by log false none rules = lawful_plain log.members log.entries none rules.0 rules.1
lawful_by log true some rules = lawful_lives log.members log.entries rules

-- entries that break no rule are those of a run
pub is_log : (log : RunParts) → MembersAllowed log.members → FAllowed log.members log.f → AllBelow log.strike log.members → FollowRules log (have_lives log.entries)
    → ((i : ℕ) → ObeysAt log.members log.entries i) → IsLog log
is_log log size f strike rules good = record {
  run = record { f = f; strike = strike; lawful = record { size = size; lawful = lawful_by log (have_lives log.entries) refl rules; members = λ i e. (good i).1 e } };
  rules = rules;
  known = λ j e d here says.
      let w = locate_all log.entries j.member j.number e here in
      let known = (good w.0).2 e d w.2 says in
      let P : ℕ → ℕ → Type 0 = λ m k. IsKnownTo (log_of log.entries) d (at m k) in
      subst (λ (k : ℕ). P j.member k) w.4 (subst (λ (m : ℕ). P m (seen log.entries w.0 m)) w.3 known);
  few = λ i. (good i).0;
}

-- ---- what is known

-- the entry at a place is of the member whose position it stands at
own_entry : (entries : List Entry) (p : ℕ) (i : Position) (e : Entry) → StandsAt entries p i → slice_get entries p ≡ Some e → entry_member e ≡ i.member
own_entry entries p i e stands here = (let same : stands.0 ≡ e = (let some : Some stands.0 ≡ Some e = sym stands.1 ∙ here in cc) in ap entry_member (sym same) ∙ stands.2)

-- a receipt stands in its receiver's log
receipt_own : (e : Entry) (d : Determinant) → receipt_in e ≡ Some d → entry_member e ≡ d.to
receipt_own (Event (Receipt to rsn from ssn)) d is = (let same : record { from = from; ssn = ssn; to = to; rsn = rsn } ≡ d = cc in ap (λ (x : Determinant). x.to) same)
receipt_own (LaterReceipt x life) d is = (let same : x ≡ d = cc in ap (λ (x : Determinant). x.to) same)
receipt_own e d is = absurd cc

-- where a determinant's receipts stand
receipt_place_of : (entries : List Entry) (d : Determinant) (i : Position) → IsReceiptAt (log_of entries) d i → (p : ℕ) × IsReceiptPlace entries d p × StandsAt entries p i
receipt_place_of entries d i is = (let w = locate_all entries i.member i.number is.0 is.1 in (w.0, (is.0, w.2, is.2), (is.0, w.2, w.3, w.4)))

-- the first of them precedes each
first_precedes : (entries : List Entry) (d : Determinant) (first p : ℕ) (i j : Position) → IsReceiptPlace entries d first → IsReceiptPlace entries d p → first ≤ p → StandsAt entries first i → StandsAt entries p j
    → Precedes HappenedBefore (log_of entries) i j
first_precedes entries d first p i j at_first at_p before stands_i stands_j = elim (cases_eq first p) [
  | inl same ↦
      let same_i : StandsAt entries p i = subst (λ (p : ℕ). StandsAt entries p i) same stands_i in
      subst (λ (k : Position). Precedes HappenedBefore (log_of entries) i k) (one_position entries p i j same_i stands_j) (itself here_i)
  | inr ne ↦
      let later = seen-later entries first p j.member at_first.0 at_first.1 own_first (omega (arith, before, ne)) in
      let number_i : seen entries first j.member ≡ i.number = ap (seen entries first) (sym same_member) ∙ stands_i.3 in
      let number_j = stands_j.3 in
      step (itself here_i) (inl (at_first.0, at_p.0, here_i, here_j, same_member, (omega (arith, later, number_i, number_j))))
] where
  here_i : IsAt (log_of entries) i at_first.0
  here_i = stands_at entries first i at_first.0 stands_i at_first.1

  here_j : IsAt (log_of entries) j at_p.0
  here_j = stands_at entries p j at_p.0 stands_j at_p.1

  own_j : j.member ≡ d.to
  own_j = sym (own_entry entries p j at_p.0 stands_j at_p.1) ∙ receipt_own at_p.0 d at_p.2

  own_i : i.member ≡ d.to
  own_i = sym (own_entry entries first i at_first.0 stands_i at_first.1) ∙ receipt_own at_first.0 d at_first.2

  same_member : i.member ≡ j.member
  same_member = own_i ∙ sym own_j

  own_first : entry_member at_first.0 ≡ j.member
  own_first = receipt_own at_first.0 d at_first.2 ∙ sym own_j

-- what is held or stored at a place is known there where the first of its receipts precedes it
pub known_first : (entries : List Entry) (place first : ℕ) (d : Determinant) (j : Position) → StandsAt entries place j → IsFirstReceipt entries d (Some first) → (b : Bool)
    → ((i : Position) → StandsAt entries first i → (b ≡ true) ↔ Precedes HappenedBefore (log_of entries) i j) → (b ≡ true) ↔ IsKnownTo (log_of entries) d j
known_first entries place first d j stands is b precedes = (
  λ yes'. (i, (is.1.0, stands_at entries first i is.1.0 stands_i is.1.1, is.1.2), (precedes i stands_i).0 yes'),
  λ known.
      let w = receipt_place_of entries d known.0 known.1 in
      let after : first ≤ w.0 = elim (cases_lt w.0 first) [ inl early ↦ absurd (is.2 w.0 (omega arith) early w.1) | inr late ↦ late ] in
      (precedes i stands_i).1 (Precedes-joined (first_precedes entries d first w.0 i known.0 is.1 w.1 after stands_i w.2) known.2),
) where
  i : Position
  i = at (entry_member is.1.0) (seen entries first (entry_member is.1.0))

  stands_i : StandsAt entries first i
  stands_i = here_stands entries first is.1.0 is.1.1

pub known_none : (entries : List Entry) (d : Determinant) (j : Position) → IsFirstReceipt entries d None → ¬ (IsKnownTo (log_of entries) d j)
known_none entries d j none known = (let w = receipt_place_of entries d known.0 known.1 in none w.0 (omega arith) w.1)

-- so the entry at the place, which says that it is held or stored, is known
pub is_known : (entries : List Entry) (place : ℕ) (e : Entry) (d : Determinant) (P : Type 0) → slice_get entries place ≡ Some e → recorded_in e ≡ Some d
    → P ↔ IsKnownTo (log_of entries) d (at (entry_member e) (seen entries place (entry_member e))) → P ↔ IsKnownAt entries place
is_known entries place e d P here is known = (
  λ p e' d' here' is'.
      let same : e ≡ e' = (let s : Some e ≡ Some e' = sym here ∙ here' in cc) in
      let same_d : d ≡ d' = (let s : Some d ≡ Some d' = sym is ∙ ap recorded_in same ∙ is' in cc) in
      subst (λ (x : Entry). IsKnownTo (log_of entries) d' (at (entry_member x) (seen entries place (entry_member x)))) same
      (subst (λ (x : Determinant). IsKnownTo (log_of entries) x (at (entry_member e) (seen entries place (entry_member e)))) same_d (known.0 p)),
  λ known'. known.1 (known' e d here is),
)

-- ---- dumps

-- the sends and receipts of a dump's run are its events
pub events_of_dump : (dump : Parts) → marks (run_of_dump dump).entries ≡ dump.events
events_of_dump dump = filter_map-append mark_in (map Event dump.events) (map hold_of dump.held) ∙ (rw (own dump.events, none dump.held, append-nil) refl) where
  own : (ms : List Mark) → marks (map Event ms) ≡ ms
  own [] = refl
  own (m ∷ ms) = ap (λ (t : List Mark). m ∷ t) (own ms)

  none : (hs : List (ℕ × Determinant)) → marks (map hold_of hs) ≡ []
  none [] = refl
  none (h ∷ hs) = none hs

-- each of its entries is an event of the dump, or a pair
pub entry_of_dump : (dump : Parts) (i : ℕ) (e : Entry) → slice_get (run_of_dump dump).entries i ≡ Some e
    → ((k : ℕ) × (m : Mark) × (slice_get dump.events k ≡ Some m) × (e ≡ Event m)) ⊎ ((k : ℕ) × (h : ℕ × Determinant) × (slice_get dump.held k ≡ Some h) × (e ≡ hold_of h))
entry_of_dump dump i e here = event dump.events i here where
  held : (hs : List (ℕ × Determinant)) (i : ℕ) → slice_get (map hold_of hs) i ≡ Some e → (k : ℕ) × (h : ℕ × Determinant) × (slice_get hs k ≡ Some h) × (e ≡ hold_of h)
  held [] i at_i = cc
  held (h ∷ hs) zero at_i = (zero, h, refl, (let same : Some (hold_of h) ≡ Some e = at_i in cc))
  held (h ∷ hs) (suc i) at_i = (let r = held hs i at_i in (suc r.0, r.1, r.2, r.3))

  event : (ms : List Mark) (i : ℕ) → slice_get (map Event ms ++ map hold_of dump.held) i ≡ Some e
      → ((k : ℕ) × (m : Mark) × (slice_get ms k ≡ Some m) × (e ≡ Event m)) ⊎ ((k : ℕ) × (h : ℕ × Determinant) × (slice_get dump.held k ≡ Some h) × (e ≡ hold_of h))
  event [] i at_i = inr (held dump.held i at_i)
  event (m ∷ ms) zero at_i = inl (zero, m, refl, (let same : Some (Event m) ≡ Some e = at_i in cc))
  event (m ∷ ms) (suc i) at_i = elim (event ms i at_i) [ inl r ↦ inl (suc r.0, r.1, r.2, r.3) | inr r ↦ inr r ]

-- and each pair is one of its entries
pub pair_in_dump : (dump : Parts) (k : ℕ) (h : ℕ × Determinant) → slice_get dump.held k ≡ Some h → (i : ℕ) × (slice_get (run_of_dump dump).entries i ≡ Some (hold_of h))
pair_in_dump dump k h here = behind dump.events where
  held : (hs : List (ℕ × Determinant)) (k : ℕ) → slice_get hs k ≡ Some h → slice_get (map hold_of hs) k ≡ Some (hold_of h)
  held [] k at_k = cc
  held (x ∷ hs) zero at_k = (let same : x ≡ h = cc in ap (λ h. Some (hold_of h)) same)
  held (x ∷ hs) (suc k) at_k = held hs k at_k

  behind : (ms : List Mark) → (i : ℕ) × (slice_get (map Event ms ++ map hold_of dump.held) i ≡ Some (hold_of h))
  behind [] = (k, held dump.held k here)
  behind (m ∷ ms) = (let r = behind ms in (suc r.0, r.1))

-- in a dump nobody restarts
pub no_lives_in_dump : (dump : Parts) → have_lives (run_of_dump dump).entries ≡ false
no_lives_in_dump dump = event dump.events where
  held : (hs : List (ℕ × Determinant)) → list_any has_life (map hold_of hs) ≡ false
  held [] = refl
  held (h ∷ hs) = held hs

  event : (ms : List Mark) → list_any has_life (map Event ms ++ map hold_of dump.held) ≡ false
  event [] = held dump.held
  event (m ∷ ms) = event ms

-- a dump's run obeys the rules of runs
pub is_run : (dump : Parts) → IsDump dump → IsRun (run_of_dump dump)
is_run dump is = record {
  f = is.f;
  strike = is.strike;
  lawful = record {
    size = is.members;
    lawful = lawful_plain dump.members (run_of_dump dump).entries (no_lives_in_dump dump) (rw (events_of_dump dump) is.events) (λ i e here. elim (entry_of_dump dump i e here) [
      | inl w ↦ (let P : Entry → Type 0 = λ e. MayBeTold dump.members (take i (run_of_dump dump).entries) e in subst P (sym w.3) tt)
      | inr w ↦ (let P : Entry → Type 0 = λ e. MayBeTold dump.members (take i (run_of_dump dump).entries) e in subst P (sym w.3) tt)
    ]);
    members = λ i e here. elim (entry_of_dump dump i e here) [
      | inl w ↦ rw w.3 (member_below dump.members dump.events w.0 w.1 is.events w.2)
      | inr w ↦ rw w.3 (is.held w.0 w.1 w.2).1
    ];
  };
}

-- past the last entry there is none that breaks a rule
pub good_all : (n : ℕ) (entries : List Entry) (p : ℕ) → length entries ≤ p → ((i : ℕ) → i < p → ObeysAt n entries i) → (i : ℕ) → ObeysAt n entries i
good_all n entries p all good i = elim (cases_lt i p) [
  | inl below ↦ good i below
  | inr past ↦ (
    λ e d here says. absurd (let w = slice_get_within entries i e here in omega (arith, w, past, all)),
    λ e here. absurd (let w = slice_get_within entries i e here in omega (arith, w, past, all)),
    λ e d here says. absurd (let w = slice_get_within entries i e here in omega (arith, w, past, all)),
  )
]

-- an entry that breaks a rule does not obey them
pub breaks : (n : ℕ) (entries : List Entry) (i : ℕ) (rule : RecordRule) → BreaksAt n entries i rule → ¬ (ObeysAt n entries i)
breaks n entries i TooMany is good = is good.0
breaks n entries i (Outside outsider) is good = (let below = good.1 is.1.0 is.1.1 in let past = is.1.2.2 in omega (arith, below, past))
breaks n entries i NotBefore is good = is.2 good.2

-- what a map keeps of one entry more
pub kept-some : {Y : Type 0} (f : Entry → Option Y) (entries : List Entry) (p : ℕ) (e : Entry) (y : Y) → slice_get entries p ≡ Some e → f e ≡ Some y → filter_map f (take (p + 1) entries) ≡ filter_map f (take p entries) ++ y ∷ []
kept-some f entries p e y here is =
    (let s : p + 1 ≡ suc p = omega arith in rw (s, take-more entries p e here, filter_map-append f (take p entries) (e ∷ []), is) refl)

pub kept-none : {Y : Type 0} (f : Entry → Option Y) (entries : List Entry) (p : ℕ) (e : Entry) → slice_get entries p ≡ Some e → f e ≡ None → filter_map f (take (p + 1) entries) ≡ filter_map f (take p entries)
kept-none f entries p e here is =
    (let s : p + 1 ≡ suc p = omega arith in rw (s, take-more entries p e here, filter_map-append f (take p entries) (e ∷ []), is, append-nil) refl)

-- the sends and receipts with one entry more
pub marks-some : (entries : List Entry) (p : ℕ) (e : Entry) (m : Mark) → slice_get entries p ≡ Some e → mark_in e ≡ Some m → marks (take (p + 1) entries) ≡ marks (take p entries) ++ m ∷ []
marks-some = kept-some mark_in

pub marks-none : (entries : List Entry) (p : ℕ) (e : Entry) → slice_get entries p ≡ Some e → mark_in e ≡ None → marks (take (p + 1) entries) ≡ marks (take p entries)
marks-none = kept-none mark_in

-- the holds and stores with one entry more
pub records-some : (entries : List Entry) (p : ℕ) (e : Entry) (d : Determinant) → slice_get entries p ≡ Some e → recorded_in e ≡ Some d → length (records (take (p + 1) entries)) ≡ length (records (take p entries)) + 1
records-some entries p e d here is = (rw (kept-some recorded_in entries p e d here is) (length-append (records (take p entries)) (d ∷ [])))

pub records-none : (entries : List Entry) (p : ℕ) (e : Entry) → slice_get entries p ≡ Some e → recorded_in e ≡ None → length (records (take (p + 1) entries)) ≡ length (records (take p entries))
records-none entries p e here is = ap length (kept-none recorded_in entries p e here is)

-- there are no more holds and stores than entries
pub records-le : (entries : List Entry) (p : ℕ) → length (records (take p entries)) ≤ p
records-le entries p = omega (arith, length-filter_map recorded_in (take p entries), length-take p entries)

pub records-is_some : (entries : List Entry) (p : ℕ) (e : Entry) (o : Option Determinant) → slice_get entries p ≡ Some e → o ≡ recorded_in e → is_some o ≡ true
    → length (records (take (p + 1) entries)) ≡ length (records (take p entries)) + 1
records-is_some entries p e None here is yes' = cc
records-is_some entries p e (Some d) here is yes' = records-some entries p e d here (sym is)

pub records-is_none : (entries : List Entry) (p : ℕ) (e : Entry) (o : Option Determinant) → slice_get entries p ≡ Some e → o ≡ recorded_in e → is_some o ≡ false
    → length (records (take (p + 1) entries)) ≡ length (records (take p entries))
records-is_none entries p e None here is no' = records-none entries p e here (sym is)
records-is_none entries p e (Some d) here is no' = cc

pub marks-is_some : (entries : List Entry) (p : ℕ) (e : Entry) (o : Option Mark) → slice_get entries p ≡ Some e → o ≡ mark_in e → is_some o ≡ true
    → ((m : Mark) × (mark_in e ≡ Some m)) × (length (marks (take (p + 1) entries)) ≡ length (marks (take p entries)) + 1)
marks-is_some entries p e None here is yes' = cc
marks-is_some entries p e (Some m) here is yes' = ((m, sym is), (rw (marks-some entries p e m here (sym is), length-append) refl))

pub marks-is_none : (entries : List Entry) (p : ℕ) (e : Entry) (o : Option Mark) → slice_get entries p ≡ Some e → o ≡ mark_in e → is_some o ≡ false
    → length (marks (take (p + 1) entries)) ≡ length (marks (take p entries))
marks-is_none entries p e None here is no' = ap length (marks-none entries p e here (sym is))
marks-is_none entries p e (Some m) here is no' = cc

-- ---- refusals

-- what a log in which nobody restarts is refused for, and what one is in which some do
pub refuses_by : (log : RunParts) (lived : Bool) (r : DumpRefusal) → have_lives log.entries ≡ lived → RefusesBy lived log r → RefusesLog log r
refuses_by log lived r is refuses = subst (λ (b : Bool). RefusesBy b log r) (sym is) refuses

pub breach_by : (log : RunParts) (lived : Bool) (r : DumpRefusal) (x : LogBreach) → have_lives log.entries ≡ lived → IsBreachBy lived log r x → IsLogBreach log r x
breach_by log lived r x is breaks = subst (λ (b : Bool). IsBreachBy b log r x) (sym is) breaks

pub rules_by : (log : RunParts) (lived : Bool) → have_lives log.entries ≡ lived → FollowRules log lived → FollowRules log (have_lives log.entries)
rules_by log lived is rules = subst (FollowRules log) (sym is) rules

-- the first entry that breaks a rule of holds and stores does not obey them
pub first_bad_breach : (n : ℕ) (entries : List Entry) (fault : RecordFault) → IsFirstBad n entries fault → IsFirstBreach (ObeysAt n entries) fault.place
first_bad_breach n entries fault bad = (bad.0, breaks n entries fault.place fault.rule bad.2)
