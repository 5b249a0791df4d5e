-- Logs in which no member restarts: what the rules of traces say of their entries.
use Rattle.fbl_runs.proofs.Common.{ℕ, zero, suc, Bool, true, false, cond, ◌≡◌, ◌≢◌, ◌==◌, ◌<◌, ◌+◌, inl, inr, List, [], ◌∷◌, ◌++◌, length, take, drop, Option, Some, None, slice_get, refl, sym, ap, ◌∙◌, arith, append-nil}
use Rattle.fbl_runs.proofs.Common.{cases_eq, nat_tests, slice_get_within, take-more, take_all, take-append-drop, At-seam, filter_map-append, At-filter_map, false≢true, in_flight-sent}
use Rattle.fbl_runs.proofs.Common.{Mark, Send, Receipt, Entry, Event, Hold, LaterReceipt, Restart, Store, Tell, Told, entry_member, log_of, mark_in, marks, restart_in, StandsInLife, life_in, standing, WellFormed, MayFollow, WellFormed-front, MayFollow-last}
use Rattle.std.proofs.Common.{count_by, ◌||◌}
use Rattle.std.specs.List.{cons_option, list_any}
use Rattle.std.proofs.lemmas.List.Sums.{sum_by_push}
use Rattle.fbl_trace.proofs.RulesLaws.{sends-step}
use Rattle.fbl_trace.specs.Rules.{sends_of}
use Rattle.fbl_runs.specs.Clocks.{seen}
use Rattle.fbl_runs.specs.ControlMessages.{AreTold}
use Rattle.fbl_runs.specs.Lives.{life_after, life_from}
use Rattle.fbl_runs.specs.Rules.{AreLawful, IsLawful, IsSentInLife, entries_at, has_life, have_lives, is_send, sends_standing}
use Rattle.fbl_runs.proofs.LifeLaws.{get_from_take, standing-push, standing_below, take-none}
use Rattle.fbl_runs.proofs.Listing.{locate_all, log_of-own, log_of-other, placed}

-- ---- entries at numbers

-- entries at numbers in a longer log
pub entries_at-front : (log rest : List Entry) (numbers : List ℕ) → ((i k : ℕ) → slice_get numbers i ≡ Some k → k < length log) → entries_at (log ++ rest) numbers ≡ entries_at log numbers
entries_at-front log rest [] below = refl
entries_at-front log rest (k ∷ numbers) below =
    (λ t. cons_option (front log k (below 0 k refl) t) (entries_at-front log rest numbers (λ i. below (suc i)) t)) where
      front : (log : List Entry) (k : ℕ) → k < length log → slice_get (log ++ rest) k ≡ slice_get log k
      front [] k within = absurd (omega (arith, within))
      front (x ∷ log) zero within = refl
      front (x ∷ log) (suc k) within = front log k (omega (arith, within))

pub entries_at-append : (log : List Entry) (xs ys : List ℕ) → entries_at log (xs ++ ys) ≡ entries_at log xs ++ entries_at log ys
entries_at-append log xs ys = filter_map-append (slice_get log) xs ys

standing_within : (log : List Entry) (i k : ℕ) → slice_get (standing log) i ≡ Some k → k < length log
standing_within log i k there = standing_below log (length log) i k (ap (λ l. slice_get (standing l) i) (take_all (length log) log (omega arith)) ∙ there)

-- what stands with one event more
pub stands-event : (log : List Entry) (e : Entry) (m : Mark) → restart_in e ≡ None → mark_in e ≡ Some m → entries_at (log ++ e ∷ []) (standing (log ++ e ∷ [])) ≡ entries_at log (standing log) ++ e ∷ []
stands-event log e m none mark =
    let is : standing (log ++ e ∷ []) ≡ standing log ++ length log ∷ [] = (rw (standing-push log e, none, mark) refl) in
    let below : (i k : ℕ) → slice_get (standing log) i ≡ Some k → k < length log = λ i k there. standing_within log i k there in
    ap (entries_at (log ++ e ∷ [])) is ∙ entries_at-append (log ++ e ∷ []) (standing log) (length log ∷ []) ∙ (λ t. entries_at-front log (e ∷ []) (standing log) below t ++ cons_option (At-seam log e [] t) [])

-- and with one that is none
pub stands-other : (log : List Entry) (e : Entry) → restart_in e ≡ None → mark_in e ≡ None → entries_at (log ++ e ∷ []) (standing (log ++ e ∷ [])) ≡ entries_at log (standing log)
stands-other log e none other =
    let is : standing (log ++ e ∷ []) ≡ standing log = (rw (standing-push log e, none, other) refl) in
    let below : (i k : ℕ) → slice_get (standing log) i ≡ Some k → k < length log = λ i k there. standing_within log i k there in
    ap (entries_at (log ++ e ∷ [])) is ∙ entries_at-front log (e ∷ []) (standing log) below

-- how many of those that stand pass a test, with one entry more that is no restart; only events pass it
pub count-push : (p : Entry → Bool) (log : List Entry) (e : Entry) → restart_in e ≡ None → (mark_in e ≡ None → p e ≡ false)
    → count_by p (entries_at (log ++ e ∷ []) (standing (log ++ e ∷ []))) ≡ count_by p (entries_at log (standing log)) + cond (p e) 1 0
count-push p log e none other = by_mark (mark_in e) refl where
  by_mark : (o : Option Mark) → mark_in e ≡ o → count_by p (entries_at (log ++ e ∷ []) (standing (log ++ e ∷ []))) ≡ count_by p (entries_at log (standing log)) + cond (p e) 1 0
  by_mark (Some m) is = ap (count_by p) (stands-event log e m none is) ∙ sum_by_push (λ x. cond (p x) 1 0) (entries_at log (standing log)) e
  by_mark None is =
      let fails = other is in
      let same : count_by p (entries_at (log ++ e ∷ []) (standing (log ++ e ∷ []))) ≡ count_by p (entries_at log (standing log)) = ap (count_by p) (stands-other log e none is) in
      let zero' : ◌≡◌ {A = ℕ} (cond (p e) 1 0) 0 = ap (λ (b : Bool). cond {A = ℕ} b 1 0) fails in
      omega (arith, same, zero')

-- ---- no member restarts

abbrev pub NoLives : List Entry → Type 0
NoLives entries = (i : ℕ) (e : Entry) → slice_get entries i ≡ Some e → has_life e ≡ false

pub no_lives : (entries : List Entry) → have_lives entries ≡ false → NoLives entries
no_lives [] none i e here = absurd cc
no_lives (x ∷ xs) none zero e here = (let same : x ≡ e = (let some : Some x ≡ Some e = here in cc) in ap has_life (sym same) ∙ first (has_life x) (list_any has_life xs) none) where
  first : (a b : Bool) → (a || b) ≡ false → a ≡ false
  first true b is = absurd (false≢true (sym is))
  first false b is = refl
no_lives (x ∷ xs) none (suc i) e here = no_lives xs (rest (has_life x) (list_any has_life xs) none) i e here where
  rest : (a b : Bool) → (a || b) ≡ false → b ≡ false
  rest true b is = absurd (false≢true (sym is))
  rest false b is = is

no_restart : (e : Entry) → has_life e ≡ false → restart_in e ≡ None
no_restart (Restart r) none = absurd (false≢true (sym none))
no_restart e none = refl

pub no_lives-front : (entries : List Entry) (p : ℕ) → NoLives entries → NoLives (take p entries)
no_lives-front entries p none i e here = none i e (get_from_take p entries i e here)

-- nor in a member's log
no_lives-log : (entries : List Entry) (m : ℕ) → NoLives entries → NoLives (log_of entries m)
no_lives-log entries m none k e here = (let w = locate_all entries m k e here in none w.0 e w.2)

life_zero : (life : ℕ) (log : List Entry) → NoLives log → life_from life log ≡ life
life_zero life [] none = refl
life_zero life (e ∷ log) none = ap (λ r. life_from (life_after r life) log) (no_restart e (none 0 e refl)) ∙ life_zero life log (λ i. none (suc i))

-- each entry stands, in the first life
pub stands_plain : (log : List Entry) → NoLives log → (k : ℕ) → k < length log → StandsInLife log 0 k
stands_plain log none k below = (
  length log,
  omega arith,
  ap life_in (take_all (length log) log (omega arith)) ∙ life_zero 0 log none,
  (
    below,
    λ number r after within is. absurd (
        let restart' = no_restart (Restart r) (none number (Restart r) is) in
        (let some : Some r ≡ None = restart' in cc)),
  ),
)

-- ---- how many sends there are

-- a mark that is a send is one
pub is_event_of_send : (x : Entry) (from ssn to : ℕ) → mark_in x ≡ Some (Send from ssn to) → x ≡ Event (Send from ssn to)
is_event_of_send (Event m) from ssn to is = (let same : m ≡ Send from ssn to = cc in ap Event same)
is_event_of_send e from ssn to is = absurd cc

no_send : (e : Entry) → mark_in e ≡ None → is_send e ≡ false
no_send (Event m) none = absurd cc
no_send (LaterReceipt d life) none = absurd cc
no_send e none = refl

marks-other : (t : List Entry) (e : Entry) → mark_in e ≡ None → marks (t ++ e ∷ []) ≡ marks t
marks-other t e unmarked = (rw (filter_map-append mark_in t (e ∷ []), unmarked, append-nil) refl)

-- with one entry more
sends-own : (t : List Entry) (e : Entry) (m : ℕ) → has_life e ≡ false → entry_member e ≡ m → sends_standing (log_of t m) ≡ sends_of (marks t) m
    → sends_standing (log_of (t ++ e ∷ []) m) ≡ sends_of (marks (t ++ e ∷ [])) m
sends-own t e m none own before =
    let log : log_of (t ++ e ∷ []) m ≡ log_of t m ++ e ∷ [] = log_of-own t e m own in
    let more = ap sends_standing log ∙ count-push is_send (log_of t m) e (no_restart e none) (no_send e) in
    by_entry e own none more where
      other : (e : Entry) → mark_in e ≡ None → sends_standing (log_of (t ++ e ∷ []) m) ≡ sends_standing (log_of t m) + cond (is_send e) 1 0 → sends_standing (log_of (t ++ e ∷ []) m) ≡ sends_of (marks (t ++ e ∷ [])) m
      other e unmarked more =
          let marked : sends_of (marks (t ++ e ∷ [])) m ≡ sends_of (marks t) m = ap (λ ms. sends_of ms m) (marks-other t e unmarked) in
          let none' : ◌≡◌ {A = ℕ} (cond (is_send e) 1 0) 0 = ap (λ (b : Bool). cond {A = ℕ} b 1 0) (no_send e unmarked) in
          omega (arith, more, marked, none', before)

      by_entry : (e : Entry) → entry_member e ≡ m → has_life e ≡ false → sends_standing (log_of (t ++ e ∷ []) m) ≡ sends_standing (log_of t m) + cond (is_send e) 1 0
          → sends_standing (log_of (t ++ e ∷ []) m) ≡ sends_of (marks (t ++ e ∷ [])) m
      by_entry (Event (Send from ssn to)) own none more =
          let marked = ap (λ ms. sends_of ms m) (filter_map-append mark_in t (Event (Send from ssn to) ∷ [])) ∙ sends-step (marks t) (Send from ssn to) m in
          let test : (from == m) ≡ true = grind (arith, nat_tests) in
          let one : ◌≡◌ {A = ℕ} (cond (from == m) 1 0) 1 = ap (λ (b : Bool). cond {A = ℕ} b 1 0) test in
          omega (arith, more, marked, one, before)
      by_entry (Event (Receipt to rsn from ssn)) own none more =
          let marked = ap (λ ms. sends_of ms m) (filter_map-append mark_in t (Event (Receipt to rsn from ssn) ∷ [])) ∙ sends-step (marks t) (Receipt to rsn from ssn) m in
          omega (arith, more, marked, before)
      by_entry (LaterReceipt d life) own none more = absurd (false≢true (sym none))
      by_entry (Restart r) own none more = absurd (false≢true (sym none))
      by_entry e own none more = other e refl more

sends-other : (t : List Entry) (e : Entry) (m : ℕ) → has_life e ≡ false → entry_member e ≢ m → sends_standing (log_of t m) ≡ sends_of (marks t) m
    → sends_standing (log_of (t ++ e ∷ []) m) ≡ sends_of (marks (t ++ e ∷ [])) m
sends-other t e m none not_own before = ap sends_standing (log_of-other t e m not_own) ∙ before ∙ by_entry e not_own none where
  other : (e : Entry) → mark_in e ≡ None → sends_of (marks t) m ≡ sends_of (marks (t ++ e ∷ [])) m
  other e unmarked = sym (ap (λ ms. sends_of ms m) (marks-other t e unmarked))

  by_entry : (e : Entry) → entry_member e ≢ m → has_life e ≡ false → sends_of (marks t) m ≡ sends_of (marks (t ++ e ∷ [])) m
  by_entry (Event (Send from ssn to)) not_own none =
      let marked = ap (λ ms. sends_of ms m) (filter_map-append mark_in t (Event (Send from ssn to) ∷ [])) ∙ sends-step (marks t) (Send from ssn to) m in
      let test : (from == m) ≡ false = grind (arith, nat_tests) in
      let none' : ◌≡◌ {A = ℕ} (cond (from == m) 1 0) 0 = ap (λ (b : Bool). cond {A = ℕ} b 1 0) test in
      omega (arith, marked, none')
  by_entry (Event (Receipt to rsn from ssn)) not_own none =
      let marked = ap (λ ms. sends_of ms m) (filter_map-append mark_in t (Event (Receipt to rsn from ssn) ∷ [])) ∙ sends-step (marks t) (Receipt to rsn from ssn) m in
      omega (arith, marked)
  by_entry (LaterReceipt d life) not_own none = absurd (false≢true (sym none))
  by_entry (Restart r) not_own none = absurd (false≢true (sym none))
  by_entry e not_own none = other e refl

module _ (entries : List Entry) (none : NoLives entries) where
  -- as many sends of a member stand as it has
  pub sends_plain : (p m : ℕ) → sends_standing (log_of (take p entries) m) ≡ sends_of (marks (take p entries)) m
  sends_plain zero m = refl
  sends_plain (suc p) m = by_entry (sends_plain p m) (slice_get entries p) refl where
    by_entry : sends_standing (log_of (take p entries) m) ≡ sends_of (marks (take p entries)) m → (o : Option Entry) → slice_get entries p ≡ o
        → sends_standing (log_of (take (suc p) entries) m) ≡ sends_of (marks (take (suc p) entries)) m
    by_entry before None nothing = (rw (take-none entries p nothing) before)
    by_entry before (Some e) here = (rw (take-more entries p e here) (elim (cases_eq (entry_member e) m) [
      | inl own ↦ sends-own (take p entries) e m (none p e here) own before
      | inr other ↦ sends-other (take p entries) e m (none p e here) other before
    ]))

-- ---- the rules

module _ (n : ℕ) (entries : List Entry) (obeys : WellFormed n (marks entries)) where
  -- the rules of traces hold at each send or receipt
  pub may : (p : ℕ) (e : Entry) (m : Mark) → slice_get entries p ≡ Some e → mark_in e ≡ Some m → MayFollow n (marks (take p entries)) m
  may p e m here is = MayFollow-last n (marks (take p entries)) m (WellFormed-front n (marks (take p entries) ++ m ∷ []) rest (rw whole at obeys)) where
    rest : List Mark
    rest = marks (drop (suc p) entries)

    front : marks (take (suc p) entries) ≡ marks (take p entries) ++ m ∷ []
    front = (rw (take-more entries p e here) (filter_map-append mark_in (take p entries) (e ∷ []) ∙ (rw is refl)))

    whole : marks entries ≡ (marks (take p entries) ++ m ∷ []) ++ rest
    whole = ap marks (sym (take-append-drop (suc p) entries)) ∙ filter_map-append mark_in (take (suc p) entries) (drop (suc p) entries) ∙ ap (λ x. x ++ rest) front

  -- what a receipt takes was sent, and stands
  pub sent_plain : (p to rsn from ssn : ℕ) → NoLives entries → MayFollow n (marks (take p entries)) (Receipt to rsn from ssn) → (k : ℕ) × IsSentInLife (log_of (take p entries)) from ssn to 0 k
  sent_plain p to rsn from ssn none m =
      let before = take p entries in
      let sent = in_flight-sent (marks before) from ssn to 0 m.5 in
      let among = At-filter_map mark_in before sent.0 (Send from ssn to) sent.1 in
      let is = is_event_of_send among.1 from ssn to among.3 in
      let here : slice_get before among.0 ≡ Some (Event (Send from ssn to)) = among.2 ∙ ap Some is in
      let there = placed before among.0 (Event (Send from ssn to)) from here refl in
      let below = slice_get_within (log_of before from) (seen before among.0 from) (Event (Send from ssn to)) there in
      (seen before among.0 from, (there, stands_plain (log_of before from) (no_lives-log before from (no_lives-front entries p none)) (seen before among.0 from) below))

-- where nobody restarts the rules of traces and of control messages are those of a run
pub lawful_plain : (n : ℕ) (entries : List Entry) → have_lives entries ≡ false → WellFormed n (marks entries) → AreTold n entries → AreLawful n entries
lawful_plain n entries none obeys told p e here = by_entry e here where
  by_entry : (e : Entry) → slice_get entries p ≡ Some e → IsLawful n (take p entries) e
  by_entry (Event (Send from ssn to)) here =
      let m = may n entries obeys p (Event (Send from ssn to)) (Send from ssn to) here refl in
      m.3 ∙ ap (λ k. k + 1) (sym (sends_plain entries (no_lives entries none) p from))
  by_entry (Event (Receipt to rsn from ssn)) here =
      sent_plain n entries obeys p to rsn from ssn (no_lives entries none) (may n entries obeys p (Event (Receipt to rsn from ssn)) (Receipt to rsn from ssn) here refl)
  by_entry (Hold q d) here = tt
  by_entry (Store q d) here = tt
  by_entry (Tell m) here = told p (Tell m) here
  by_entry (Told m) here = told p (Told m) here
  by_entry e here = absurd (false≢true (sym (no_lives entries none p e here)))
