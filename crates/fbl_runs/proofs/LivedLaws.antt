-- What a pass knows of the members' lives, behind one entry more.
use Rattle.fbl_runs.proofs.Common.{ℕ, zero, suc, Bool, true, false, cond, ◌≡◌, ◌≢◌, ◌<◌, ◌≤◌, ◌+◌, ◌⊎◌, inl, inr, List, [], ◌∷◌, ◌++◌, length, take, Option, Some, None, slice_get, refl, sym, ap, subst, ◌∙◌, arith, append-nil}
use Rattle.fbl_runs.proofs.Common.{cases_eq, cases_lt, length-append, slice_get_within, At-front, At-push, At-seam, take_all, filter-append, false≢true}
use Rattle.fbl_trace.proofs.Common.{take-append-le}
use Rattle.fbl_trace.proofs.Gets.{At-filter}
use Rattle.fbl_runs.proofs.Common.{Mark, ControlMessage, Entry, Event, Restart, Tell, mark_in, restart_in, entry_member, log_of, at, Position}
use Rattle.std.proofs.Common.{map, set, length-set}
use Rattle.std.proofs.lemmas.List.{map_push, take-map}
use Rattle.std.specs.List.{filter}
use Rattle.std.specs.HashMap as hash_map
use Rattle.fbl_runs.specs.declared.entry.Restart as restart
use Rattle.fbl_runs.specs.declared.lives.KnownLog.{KnownLog}
use Rattle.fbl_runs.specs.declared.lives.Life.{Life}
use Rattle.fbl_runs.specs.declared.lives.Lives.{Lives}
use Rattle.fbl_runs.specs.declared.lives.StandingEvent.{StandingEvent}
use Rattle.fbl_runs.specs.Clocks.{StandsAt}
use Rattle.fbl_runs.specs.ControlMessages.{AreEndsAllowed, same_control}
use Rattle.fbl_runs.specs.KnownLives.{AreEvents, ArePlaces, HasLived, IsKnownLog, IsLastRestartBehind, IsLifeAt, IsLifeBehind, IsLifeOf, IsTellPlace, events_after, is_send_at, is_send_in, sends_behind, sent_now}
use Rattle.fbl_runs.specs.Lives.{life_after, life_in, standing, stood_after}
use Rattle.fbl_runs.specs.Rules.{AreLawful, IsLawful, is_restart, is_send, restarts}
use Rattle.fbl_runs.proofs.RestartCounts.{restart_counted}
use Rattle.fbl_runs.proofs.LifeLaws.{LivesRise, get_from_take, life-push, life_le, standing-push, standing_below}
use Rattle.fbl_runs.proofs.Listing.{log_of-other, log_of-own}
use Rattle.fbl_runs.proofs.RecordLaws.{set_get}
use Rattle.fbl_runs.proofs.ControlLaws.{has_more, same_control-self, same_control-true}
use Rattle.fbl_runs.proofs.LeadsLaws.{lives_rise}
use Rattle.fbl_runs.proofs.SendLaws.{filter_agree, send_in_front}

-- ---- one entry more

pub take_front : {X : Type 0} (xs : List X) (y : X) → take (length xs) (xs ++ y ∷ []) ≡ xs
take_front xs y = take-append-le (length xs) xs (y ∷ []) (omega arith) ∙ take_all (length xs) xs (omega arith)

pub get_below : {X : Type 0} (xs ys : List X) (i : ℕ) (x : X) → i < length xs → slice_get (xs ++ ys) i ≡ Some x → slice_get xs i ≡ Some x
get_below [] ys i x below is = absurd (omega (arith, below))
get_below (y ∷ xs) ys zero x below is = is
get_below (y ∷ xs) ys (suc i) x below is = get_below xs ys i x (omega (arith, below)) is

pub stands_more : (before : List Entry) (e : Entry) (p : ℕ) (i : Position) → StandsAt before p i → StandsAt (before ++ e ∷ []) p i
stands_more before e p i stands =
    let within = slice_get_within before p stands.0 stands.1 in
    let same : take p (before ++ e ∷ []) ≡ take p before = take-append-le p before (e ∷ []) (omega (arith, within)) in
    (stands.0, At-front before (e ∷ []) p stands.0 stands.1, stands.2, ap (λ t. length (log_of t i.member)) same ∙ stands.3)

pub stands_last : (before : List Entry) (e : Entry) → StandsAt (before ++ e ∷ []) (length before) (at (entry_member e) (length (log_of before (entry_member e))))
stands_last before e = (e, At-seam before e [], refl, ap (λ t. length (log_of t (entry_member e))) (take_front before e))

-- ---- the rules

more_ends : (a b : ℕ) (m : ControlMessage) → a ≤ b → AreEndsAllowed a m → AreEndsAllowed b m
more_ends a b m less ends = ((let h = ends.0 in omega (arith, h, less)), (let h = ends.1 in omega (arith, h, less)), ends.2)

more_members : (a b : ℕ) (before : List Entry) (e : Entry) → a ≤ b → IsLawful a before e → IsLawful b before e
more_members a b before (Tell m) less law = (more_ends a b m less law.0, law.1)
more_members a b before e less law = law

pub lawful_more : (a b : ℕ) (before : List Entry) (e : Entry) → AreLawful a before → IsLawful b before e → AreLawful (a + b) (before ++ e ∷ [])
lawful_more a b before e old law i x here = elim (At-push before e i x here) [
  | inl there ↦
      let within = slice_get_within before i x there in
      let same : take i before ≡ take i (before ++ e ∷ []) = sym (take-append-le i before (e ∷ []) (omega (arith, within))) in
      subst (λ (t : List Entry). IsLawful (a + b) t x) same (more_members a (a + b) (take i before) x (omega arith) (old i x there))
  | inr new ↦
      let same : before ≡ take i (before ++ e ∷ []) = sym (ap (λ n. take n (before ++ e ∷ [])) new.0 ∙ take_front before e) in
      let law' : IsLawful (a + b) before x = subst (λ (x : Entry). IsLawful (a + b) before x) new.1 (more_members b (a + b) before e (omega arith) law) in
      subst (λ (t : List Entry). IsLawful (a + b) t x) same law'
]

-- ---- the places, and the events that stand

pub places_more : (before : List Entry) (e : Entry) (q : ℕ) (places : List ℕ) → entry_member e ≢ q → ArePlaces before (log_of before q) q places
    → ArePlaces (before ++ e ∷ []) (log_of (before ++ e ∷ []) q) q places
places_more before e q places other are = record {
  count = are.count ∙ sym (ap length (log_of-other before e q other));
  each = λ k p is. stands_more before e p (at q k) (are.each k p is);
}

pub places_last : (before : List Entry) (e : Entry) (places : List ℕ) → ArePlaces before (log_of before (entry_member e)) (entry_member e) places
    → ArePlaces (before ++ e ∷ []) (log_of (before ++ e ∷ []) (entry_member e)) (entry_member e) (places ++ length before ∷ [])
places_last before e places are = record {
  count = (
      let log = log_of before (entry_member e) in
      length-append places (length before ∷ []) ∙ ap (λ n. n + 1) are.count ∙ sym (length-append log (e ∷ [])) ∙ sym (ap length (log_of-own before e (entry_member e) refl)));
  each = λ k p is. elim (At-push places (length before) k p is) [
    | inl old ↦ stands_more before e p (at (entry_member e) k) (are.each k p old)
    | inr new ↦
        let number : length (log_of before (entry_member e)) ≡ k = sym are.count ∙ sym new.0 in
        subst (λ (p : ℕ). StandsAt (before ++ e ∷ []) p (at (entry_member e) k)) new.1 (subst (λ (k : ℕ). StandsAt (before ++ e ∷ []) (length before) (at (entry_member e) k)) number (stands_last before e))
  ];
}

pub events_kept : (log more : List Entry) (kept : List ℕ) (events : List StandingEvent) → AreEvents log kept events → AreEvents (log ++ more) kept events
events_kept log more kept events are = record { numbers = are.numbers; entries = λ i e is. At-front log more e.number e.entry (are.entries i e is) }

events_push : (log : List Entry) (e : Entry) (kept : List ℕ) (events : List StandingEvent) (n : ℕ) → n ≡ length log → AreEvents log kept events
    → AreEvents (log ++ e ∷ []) (kept ++ length log ∷ []) (events ++ record { number = n; entry = e } ∷ [])
events_push log e kept events n size are = record {
  numbers = map_push (λ e. e.number) events (record { number = n; entry = e }) ∙ ap (λ xs. xs ++ n ∷ []) are.numbers ∙ ap (λ n. kept ++ n ∷ []) size;
  entries = λ i x is. elim (At-push events (record { number = n; entry = e }) i x is) [
    | inl old ↦ At-front log (e ∷ []) x.number x.entry (are.entries i x old)
    | inr new ↦ subst (λ (x : StandingEvent). slice_get (log ++ e ∷ []) x.number ≡ Some x.entry) new.1 (subst (λ (k : ℕ). slice_get (log ++ e ∷ []) k ≡ Some e) (sym size) (At-seam log e []))
  ];
}

events_take : (log : List Entry) (n : ℕ) (kept : List ℕ) (events : List StandingEvent) → AreEvents log kept events → AreEvents log (take n kept) (take n events)
events_take log n kept events are = record {
  numbers = sym (take-map (λ e. e.number) n events) ∙ ap (take n) are.numbers;
  entries = λ i e is. are.entries i e (get_from_take n events i e is);
}

pub events_more : (log : List Entry) (e : Entry) (events : List StandingEvent) (n : ℕ) → n ≡ length log → AreEvents log (standing log) events
    → AreEvents (log ++ e ∷ []) (standing (log ++ e ∷ [])) (events_after (restart_in e) (mark_in e) e n events)
events_more log e events n size are = subst (λ (s : List ℕ). AreEvents (log ++ e ∷ []) s (events_after (restart_in e) (mark_in e) e n events)) (sym (standing-push log e)) (by_kind (restart_in e) (mark_in e)) where
  by_kind : (a : Option restart.Restart) (b : Option Mark) → AreEvents (log ++ e ∷ []) (stood_after a b (length log) (standing log)) (events_after a b e n events)
  by_kind (Some r) b = events_kept log (e ∷ []) (take (r.receipts + r.sends) (standing log)) (take (r.receipts + r.sends) events) (events_take log (r.receipts + r.sends) (standing log) events are)
  by_kind None (Some m) = events_push log e (standing log) events n size are
  by_kind None None = events_kept log (e ∷ []) (standing log) events are

-- the sends among events
filter_numbers : (p : ℕ → Bool) (events : List StandingEvent) → ((i : ℕ) (e : StandingEvent) → slice_get events i ≡ Some e → p e.number ≡ is_send e.entry)
    → map (λ e. e.number) (filter (λ e. is_send e.entry) events) ≡ filter p (map (λ e. e.number) events)
filter_numbers p [] agree = refl
filter_numbers p (e ∷ events) agree = by_test (is_send e.entry) (filter_numbers p events (λ i. agree (suc i))) ∙ ap (λ b. cond b (e.number ∷ filter p (map (λ e. e.number) events)) (filter p (map (λ e. e.number) events))) (sym (agree 0 e refl)) where
  by_test : (b : Bool) → map (λ e. e.number) (filter (λ e. is_send e.entry) events) ≡ filter p (map (λ e. e.number) events)
      → map (λ e. e.number) (cond b (e ∷ filter (λ e. is_send e.entry) events) (filter (λ e. is_send e.entry) events)) ≡ cond b (e.number ∷ filter p (map (λ e. e.number) events)) (filter p (map (λ e. e.number) events))
  by_test true rest = ap (λ xs. e.number ∷ xs) rest
  by_test false rest = rest

event_in_filter : (p : StandingEvent → Bool) (events : List StandingEvent) (i : ℕ) (e : StandingEvent) → slice_get (filter p events) i ≡ Some e → (j : ℕ) × (slice_get events j ≡ Some e)
event_in_filter p events i e is = At-filter p events i e is

pub events_sends : (log : List Entry) (kept : List ℕ) (events : List StandingEvent) → AreEvents log kept events → AreEvents log (filter (is_send_at log) kept) (filter (λ e. is_send e.entry) events)
events_sends log kept events are = record {
  numbers = filter_numbers (is_send_at log) events (λ i e is. ap is_send_in (are.entries i e is)) ∙ ap (filter (is_send_at log)) are.numbers;
  entries = λ i e is. (let r = event_in_filter (λ e. is_send e.entry) events i e is in are.entries r.0 e r.1);
}

-- ---- the lives

sends_kept : (log : List Entry) (e : Entry) (x : ℕ) → x ≤ length log → sends_behind log x ≡ sends_behind (log ++ e ∷ []) x
sends_kept log e x within =
    let front : take x (log ++ e ∷ []) ≡ take x log = take-append-le x log (e ∷ []) within in
    let agree : filter (is_send_at log) (standing (take x log)) ≡ filter (is_send_at (log ++ e ∷ [])) (standing (take x log)) =
    filter_agree (is_send_at log) (is_send_at (log ++ e ∷ [])) (standing (take x log)) (λ i k is. (
    let below : k < x = standing_below log x i k is in
    let a : is_send_at (take x log) k ≡ is_send_at log k = send_in_front log x k below in
    let b : is_send_at (take x (log ++ e ∷ [])) k ≡ is_send_at (log ++ e ∷ []) k = send_in_front (log ++ e ∷ []) x k below in
    sym a ∙ ap (λ t. is_send_at t k) (sym front) ∙ b)) in
    agree ∙ ap (λ t. filter (is_send_at (log ++ e ∷ [])) (standing t)) (sym front)

last_restart_kept : (log : List Entry) (e : Entry) (x : ℕ) (o : Option ℕ) → x ≤ length log → IsLastRestartBehind log x o → IsLastRestartBehind (log ++ e ∷ []) x o
last_restart_kept log e x None within none = λ k r below is. none k r below (get_below log (e ∷ []) k (Restart r) (omega (arith, below, within)) is)
last_restart_kept log e x (Some number) within last = (
  last.0,
  (last.1.0, At-front log (e ∷ []) number (Restart last.1.0) last.1.1),
  λ k r past below is. last.2 k r past below (get_below log (e ∷ []) k (Restart r) (omega (arith, below, within)) is),
)

-- a life that is over, or ends here, stays as it is
pub life_over : (log : List Entry) (e : Entry) (x : ℕ) (l : Life) → life_in (log ++ e ∷ []) ≢ l.life → IsLifeBehind log x l → IsLifeBehind (log ++ e ∷ []) x l
life_over log e x l other is =
    let within = is.within in
    let size : length (log ++ e ∷ []) ≡ length log + 1 = length-append log (e ∷ []) in
    let front : take x (log ++ e ∷ []) ≡ take x log = take-append-le x log (e ∷ []) within in
    record {
      within = omega (arith, within, size);
      life = is.life ∙ ap life_in (sym front);
      last = λ y below same. elim (cases_lt (length log) y) [
        | inl past ↦
            let all : take y (log ++ e ∷ []) ≡ log ++ e ∷ [] = take_all y (log ++ e ∷ []) (omega (arith, past, size)) in
            absurd (other (ap life_in (sym all) ∙ same))
        | inr inside ↦ is.last y inside (ap life_in (sym (take-append-le y log (e ∷ []) inside)) ∙ same)
      ];
      restart = last_restart_kept log e x l.restart within is.restart;
      sends = subst (λ (s : List ℕ). AreEvents (log ++ e ∷ []) s l.sends.items) (sends_kept log e x within) (events_kept log (e ∷ []) (sends_behind log x) l.sends.items is.sends);
    }

-- the current life is behind all entries
pub life_now : (log : List Entry) (x : ℕ) (l : Life) → life_in log ≡ l.life → IsLifeBehind log x l → x ≡ length log
life_now log x l same is =
    let past = is.last (length log) (omega arith) (ap life_in (take_all (length log) log (omega arith)) ∙ same) in
    let within = is.within in
    omega (arith, past, within)

no_restart_mark : (e : Entry) → restart_in e ≡ None → (is_send e ≡ false) ⊎ ((m : Mark) × (mark_in e ≡ Some m))
no_restart_mark (Event m) none = inr (m, refl)
no_restart_mark (Restart r) none = cc
no_restart_mark e none = inl refl

-- the sends that stand behind all entries, and behind one more that is no restart
sends_more : (log : List Entry) (e : Entry) → restart_in e ≡ None → sends_behind (log ++ e ∷ []) (length log + 1) ≡ sends_behind log (length log) ++ cond (is_send e) (length log ∷ []) []
sends_more log e none =
    let n = length log in
    let size : length (log ++ e ∷ []) ≡ n + 1 = length-append log (e ∷ []) in
    let all : take (n + 1) (log ++ e ∷ []) ≡ log ++ e ∷ [] = take_all (n + 1) (log ++ e ∷ []) (omega (arith, size)) in
    let p = is_send_at (log ++ e ∷ []) in
    let whole : take n log ≡ log = take_all n log (omega arith) in
    let front : filter p (standing log) ≡ sends_behind log n =
    ap (λ t. filter p (standing t)) (sym (take_front log e)) ∙ sym (sends_kept log e n (omega arith)) in
    let step : standing (log ++ e ∷ []) ≡ stood_after None (mark_in e) n (standing log) = standing-push log e ∙ ap (λ r. stood_after r (mark_in e) n (standing log)) none in
    let here : p n ≡ is_send e = ap is_send_in (At-seam log e []) in
    ap (λ t. filter p (standing t)) all ∙ ap (filter p) step ∙ by_mark (mark_in e) refl front here where
      by_mark : (b : Option Mark) → mark_in e ≡ b → filter (is_send_at (log ++ e ∷ [])) (standing log) ≡ sends_behind log (length log) → is_send_at (log ++ e ∷ []) (length log) ≡ is_send e
          → filter (is_send_at (log ++ e ∷ [])) (stood_after None b (length log) (standing log)) ≡ sends_behind log (length log) ++ cond (is_send e) (length log ∷ []) []
      by_mark (Some m) is front here =
          filter-append (is_send_at (log ++ e ∷ [])) (standing log) (length log ∷ []) ∙ ap (λ s. s ++ cond (is_send_at (log ++ e ∷ []) (length log)) (length log ∷ []) []) front
          ∙ ap (λ b. sends_behind log (length log) ++ cond b (length log ∷ []) []) here
      by_mark None is front here = elim (no_restart_mark e none) [
        | inl other ↦ front ∙ sym (append-nil (sends_behind log (length log))) ∙ ap (λ b. sends_behind log (length log) ++ cond b (length log ∷ []) []) (sym other)
        | inr some ↦ absurd (let wrong : None ≡ Some some.0 = sym is ∙ some.1 in cc)
      ]

-- the current life goes on
pub life_goes_on : (log : List Entry) (e : Entry) (x n : ℕ) (l more : Life) → restart_in e ≡ None → n ≡ length log → life_in log ≡ l.life → IsLifeBehind log x l
    → more.life ≡ l.life → more.restart ≡ l.restart → more.sends.items ≡ l.sends.items ++ sent_now e n → IsLifeBehind (log ++ e ∷ []) (length log + 1) more
life_goes_on log e x n l more none at_n same is same_life same_restart sends =
    let size : length (log ++ e ∷ []) ≡ length log + 1 = length-append log (e ∷ []) in
    let all : take (length log + 1) (log ++ e ∷ []) ≡ log ++ e ∷ [] = take_all (length log + 1) (log ++ e ∷ []) (omega (arith, size)) in
    let now : life_in (log ++ e ∷ []) ≡ life_in log = life-push log e ∙ ap (λ r. life_after r (life_in log)) none in
    let at_x : x ≡ length log = life_now log x l same is in
    record {
      within = omega (arith, size);
      life = same_life ∙ sym same ∙ sym now ∙ ap life_in (sym all);
      last = λ y below _. omega (arith, below, size);
      restart = subst (IsLastRestartBehind (log ++ e ∷ []) (length log + 1)) (sym same_restart) (by_restart l.restart (subst (λ (x : ℕ). IsLastRestartBehind log x l.restart) at_x is.restart));
      sends = subst (λ (s : List ℕ). AreEvents (log ++ e ∷ []) s more.sends.items) (sym (sends_more log e none)) (subst (AreEvents (log ++ e ∷ []) (sends_behind log (length log) ++ cond (is_send e) (length log ∷ []) [])) (sym sends)
          (by_send (is_send e) (subst (λ (x : ℕ). AreEvents log (sends_behind log x) l.sends.items) at_x is.sends)));
    } where
      no_restart : (k : ℕ) (r : restart.Restart) → k < length log + 1 → slice_get (log ++ e ∷ []) k ≡ Some (Restart r) → slice_get log k ≡ Some (Restart r)
      no_restart k r below at_k = elim (At-push log e k (Restart r) at_k) [
        | inl old ↦ old
        | inr new ↦ absurd (let wrong : None ≡ Some r = sym none ∙ ap restart_in new.1 in cc)
      ]

      by_restart : (o : Option ℕ) → IsLastRestartBehind log (length log) o → IsLastRestartBehind (log ++ e ∷ []) (length log + 1) o
      by_restart None free = λ k r below at_k. (let old = no_restart k r below at_k in free k r (slice_get_within log k (Restart r) old) old)
      by_restart (Some number) last = (
        (let h = last.0 in omega (arith, h)),
        (last.1.0, At-front log (e ∷ []) number (Restart last.1.0) last.1.1),
        λ k r past below at_k. (let old = no_restart k r below at_k in last.2 k r past (slice_get_within log k (Restart r) old) old),
      )

      by_send : (b : Bool) → AreEvents log (sends_behind log (length log)) l.sends.items
          → AreEvents (log ++ e ∷ []) (sends_behind log (length log) ++ cond b (length log ∷ []) []) (l.sends.items ++ cond b (record { number = n; entry = e } ∷ []) [])
      by_send true are = events_push log e (sends_behind log (length log)) l.sends.items n at_n are
      by_send false are =
          let P : List ℕ → List StandingEvent → Type 0 = λ s t. AreEvents (log ++ e ∷ []) s t in
          subst (λ (s : List ℕ). P s (l.sends.items ++ [])) (sym (append-nil (sends_behind log (length log)))) (subst (λ (t : List StandingEvent). P (sends_behind log (length log)) t) (sym (append-nil l.sends.items))
          (events_kept log (e ∷ []) (sends_behind log (length log)) l.sends.items are))

-- a life begins
pub life_begins : (log : List Entry) (r : restart.Restart) (n : ℕ) (events : List StandingEvent) (l : Life) → n ≡ length log → AreEvents (log ++ Restart r ∷ []) (standing (log ++ Restart r ∷ [])) events
    → l.life ≡ r.life → l.restart ≡ Some n → l.sends.items ≡ filter (λ e. is_send e.entry) events → IsLifeBehind (log ++ Restart r ∷ []) (length log + 1) l
life_begins log r n events l at_n are life begun sends =
    let e = Restart r in
    let size : length (log ++ e ∷ []) ≡ length log + 1 = length-append log (e ∷ []) in
    let all : take (length log + 1) (log ++ e ∷ []) ≡ log ++ e ∷ [] = take_all (length log + 1) (log ++ e ∷ []) (omega (arith, size)) in
    let kept : sends_behind (log ++ e ∷ []) (length log + 1) ≡ filter (is_send_at (log ++ e ∷ [])) (standing (log ++ e ∷ [])) = ap (λ t. filter (is_send_at (log ++ e ∷ [])) (standing t)) all in
    record {
      within = omega (arith, size);
      life = life ∙ sym (life-push log e) ∙ ap life_in (sym all);
      last = λ y below _. omega (arith, below, size);
      restart = subst (IsLastRestartBehind (log ++ e ∷ []) (length log + 1)) (sym begun) (omega (arith, at_n), (r, subst (λ (k : ℕ). slice_get (log ++ e ∷ []) k ≡ Some e) (sym at_n) (At-seam log e [])), λ k s past below _. omega (arith, past, below, at_n));
      sends = subst (λ (s : List ℕ). AreEvents (log ++ e ∷ []) s l.sends.items) (sym kept) (subst (AreEvents (log ++ e ∷ []) (filter (is_send_at (log ++ e ∷ [])) (standing (log ++ e ∷ [])))) (sym sends) (events_sends (log ++ e ∷ []) (standing (log ++ e ∷ [])) events are));
    }

-- ---- a list with one element changed

pub set_here : {X : Type 0} (xs : List X) (i : ℕ) (x v : X) → slice_get xs i ≡ Some x → slice_get (set xs i v) i ≡ Some v
set_here [] i x v is = cc
set_here (y ∷ xs) zero x v is = refl
set_here (y ∷ xs) (suc i) x v is = set_here xs i x v is

pub set_elsewhere : {X : Type 0} (xs : List X) (i j : ℕ) (x v : X) → j ≢ i → slice_get xs j ≡ Some x → slice_get (set xs i v) j ≡ Some x
set_elsewhere [] i j x v other is = cc
set_elsewhere (y ∷ xs) zero zero x v other is = absurd (other refl)
set_elsewhere (y ∷ xs) zero (suc j) x v other is = is
set_elsewhere (y ∷ xs) (suc i) zero x v other is = is
set_elsewhere (y ∷ xs) (suc i) (suc j) x v other is = set_elsewhere xs i j x v (λ same. other (ap suc same)) is

pub set_itself : {X : Type 0} (xs : List X) (i : ℕ) (x : X) → slice_get xs i ≡ Some x → xs ≡ set xs i x
set_itself [] i x is = cc
set_itself (y ∷ xs) zero x is = (let same : y ≡ x = cc in ap (λ y. y ∷ xs) same)
set_itself (y ∷ xs) (suc i) x is = ap (λ xs. y ∷ xs) (set_itself xs i x is)

-- the life of a number, where one life is changed but stays that of its member
module _ (lives : List Life) (c : ℕ) (l more : Life) (here : slice_get lives c ≡ Some l) (member : more.member ≡ l.member) (life : more.life ≡ l.life) where
  pub life_at_more : (a q f : ℕ) → IsLifeAt lives a q f → IsLifeAt (set lives c more) a q f
  life_at_more a q f is = elim (cases_eq a c) [
    | inl same ↦
        let there : slice_get lives c ≡ Some is.0 = subst (λ (n : ℕ). slice_get lives n ≡ Some is.0) same is.1 in
        let equal : l ≡ is.0 = (let some : Some l ≡ Some is.0 = sym here ∙ there in cc) in
        (more, subst (λ (n : ℕ). slice_get (set lives c more) n ≡ Some more) (sym same) (set_here lives c l more here), member ∙ ap (λ l. l.member) equal ∙ is.2, life ∙ ap (λ l. l.life) equal ∙ is.3)
    | inr other ↦ (is.0, set_elsewhere lives c a is.0 more other is.1, is.2, is.3)
  ]

  pub life_at_less : (a q f : ℕ) → IsLifeAt (set lives c more) a q f → IsLifeAt lives a q f
  life_at_less a q f is = elim (set_get lives c a more is.0 is.1) [
    | inl same ↦ (l, subst (λ (n : ℕ). slice_get lives n ≡ Some l) (sym same.0) here, sym member ∙ ap (λ l. l.member) same.1 ∙ is.2, sym life ∙ ap (λ l. l.life) same.1 ∙ is.3)
    | inr other ↦ (is.0, other.1, is.2, is.3)
  ]

-- ---- the tells

pub tells_kept : (before : List Entry) (e : Entry) (m : ControlMessage) (o : Option ℕ) → e ≢ Tell m → IsTellPlace before m o → IsTellPlace (before ++ e ∷ []) m o
tells_kept before e m None other none = λ has. elim ((has_more before e (Tell m)).0 has) [ inl old ↦ none old | inr new ↦ other new ]
tells_kept before e m (Some place) other is = At-front before (e ∷ []) place (Tell m) is

pub tells_more : (before : List Entry) (x : ControlMessage) (old new : ControlMessage → Option ℕ) → ((m : ControlMessage) → new m ≡ cond (same_control x m) (Some (length before)) (old m))
    → ((m : ControlMessage) → IsTellPlace before m (old m)) → (m : ControlMessage) → IsTellPlace (before ++ Tell x ∷ []) m (new m)
tells_more before x old new writes is m = subst (IsTellPlace (before ++ Tell x ∷ []) m) (sym (writes m)) (by_test (same_control x m) refl) where
  by_test : (b : Bool) → same_control x m ≡ b → IsTellPlace (before ++ Tell x ∷ []) m (cond b (Some (length before)) (old m))
  by_test true same = At-seam before (Tell x) [] ∙ ap (λ m. Some (Tell m)) (same_control-true x m same)
  by_test false other = tells_kept before (Tell x) m (old m) (λ same. (
      let equal : x ≡ m = cc in
      false≢true (sym other ∙ ap (same_control x) (sym equal) ∙ same_control-self x))) (is m)

-- ---- the number of lives

pub no_restart_counted : (e : Entry) → restart_in e ≡ None → is_restart e ≡ false
no_restart_counted (Restart r) none = cc
no_restart_counted e none = refl

-- ---- one entry more

module _ (before : List Entry) (known : Lives) (has : HasLived before known) where
  rises : (q : ℕ) → LivesRise (log_of before q)
  rises q = lives_rise has.lawful.0 before has.lawful.1 q

  -- no life is later than the current one
  pub life_known_le : (l : Life) → IsLifeOf before l → l.life ≤ life_in (log_of before l.member)
  life_known_le l is =
      let log = log_of before l.member in
      let front = life_le log (rises l.member) is.0 (length log) is.1.within in
      let all = ap life_in (take_all (length log) log (omega arith)) in
      let life = is.1.life in
      omega (arith, front, all, life)

  -- a life of another member
  life_elsewhere : (e : Entry) (l : Life) → entry_member e ≢ l.member → IsLifeOf before l → IsLifeOf (before ++ e ∷ []) l
  life_elsewhere e l other is = (is.0, subst (λ (log : List Entry). IsLifeBehind log is.0 l) (sym (log_of-other before e l.member other)) is.1)

  -- what is known of the log of another member
  log_elsewhere : (e : Entry) (q : ℕ) (log : KnownLog) (lives : List Life) → entry_member e ≢ q → ((a q f : ℕ) → IsLifeAt known.lives.items a q f → IsLifeAt lives a q f)
      → IsKnownLog before known.lives.items q log → IsKnownLog (before ++ e ∷ []) lives q log
  log_elsewhere e q log lives other kept is =
      let same : log_of before q ≡ log_of (before ++ e ∷ []) q = sym (log_of-other before e q other) in
      record {
        places = places_more before e q log.places.items other is.places;
        standing = subst (λ (t : List Entry). AreEvents t (standing t) log.standing.items) same is.standing;
        life = kept log.life q (life_in (log_of (before ++ e ∷ []) q)) (subst (λ (t : List Entry). IsLifeAt known.lives.items log.life q (life_in t)) same is.life);
      }

  outside_more : (e : Entry) → entry_member e < 16 → (q : ℕ) → 16 ≤ q → log_of (before ++ e ∷ []) q ≡ []
  outside_more e below q past = log_of-other before e q (λ same. omega (arith, below, past, same)) ∙ has.outside q past

  -- an entry that is no restart
  module _ (n : ℕ) (e : Entry) (law : IsLawful n before e) (below : entry_member e < 16) (none : restart_in e ≡ None) (log log' : KnownLog) (known' : Lives)
      (here : slice_get known.logs.items (entry_member e) ≡ Some log) (logs : known'.logs.items ≡ set known.logs.items (entry_member e) log')
      (places : log'.places.items ≡ log.places.items ++ length before ∷ [])
      (stand : log'.standing.items ≡ events_after (restart_in e) (mark_in e) e (length log.places.items) log.standing.items) (life : log'.life ≡ log.life)
      (l more : Life) (at_l : slice_get known.lives.items log.life ≡ Some l) (lives : known'.lives.items ≡ set known.lives.items log.life more)
      (same_member : more.member ≡ l.member) (same_life : more.life ≡ l.life) (same_restart : more.restart ≡ l.restart)
      (sends : more.sends.items ≡ l.sends.items ++ sent_now e (length log.places.items))
      (tells : (m : ControlMessage) → IsTellPlace (before ++ e ∷ []) m (hash_map.get same_control known'.tells m)) where
    own : log_of (before ++ e ∷ []) (entry_member e) ≡ log_of before (entry_member e) ++ e ∷ []
    own = log_of-own before e (entry_member e) refl

    is_known : IsKnownLog before known.lives.items (entry_member e) log
    is_known = has.logs (entry_member e) log here

    at_n : length log.places.items ≡ length (log_of before (entry_member e))
    at_n = is_known.places.count

    current : (l.member ≡ entry_member e) × (life_in (log_of before (entry_member e)) ≡ l.life)
    current =
        let at' = is_known.life in
        let equal : at'.0 ≡ l = (let some : Some at'.0 ≡ Some l = sym at'.1 ∙ at_l in cc) in
        (sym (ap (λ l. l.member) equal) ∙ at'.2, sym at'.3 ∙ ap (λ l. l.life) equal)

    now : life_in (log_of (before ++ e ∷ []) (entry_member e)) ≡ life_in (log_of before (entry_member e))
    now = ap life_in own ∙ life-push (log_of before (entry_member e)) e ∙ ap (λ r. life_after r (life_in (log_of before (entry_member e)))) none

    at_more : (a q f : ℕ) → IsLifeAt known.lives.items a q f → IsLifeAt known'.lives.items a q f
    at_more a q f is = subst (λ (ls : List Life). IsLifeAt ls a q f) (sym lives) (life_at_more known.lives.items log.life l more at_l same_member same_life a q f is)

    at_less : (a q f : ℕ) → IsLifeAt known'.lives.items a q f → IsLifeAt known.lives.items a q f
    at_less a q f is = life_at_less known.lives.items log.life l more at_l same_member same_life a q f (subst (λ (ls : List Life). IsLifeAt ls a q f) lives is)

    logs_on : (q : ℕ) (x : KnownLog) → slice_get known'.logs.items q ≡ Some x → IsKnownLog (before ++ e ∷ []) known'.lives.items q x
    logs_on q x is = elim (set_get known.logs.items (entry_member e) q log' x (sym (ap (λ s. slice_get s q) logs) ∙ is)) [
      | inl new ↦ subst (λ (x : KnownLog). IsKnownLog (before ++ e ∷ []) known'.lives.items q x) new.1 (subst (λ (q : ℕ). IsKnownLog (before ++ e ∷ []) known'.lives.items q log') (sym new.0) (record {
        places = subst (ArePlaces (before ++ e ∷ []) (log_of (before ++ e ∷ []) (entry_member e)) (entry_member e)) (sym places) (places_last before e log.places.items is_known.places);
        standing = subst (AreEvents (log_of (before ++ e ∷ []) (entry_member e)) (standing (log_of (before ++ e ∷ []) (entry_member e)))) (sym stand) (subst (λ (t : List Entry). AreEvents t (standing t) (events_after (restart_in e) (mark_in e) e (length log.places.items) log.standing.items)) (sym own)
            (events_more (log_of before (entry_member e)) e log.standing.items (length log.places.items) at_n is_known.standing));
        life = subst (λ (f : ℕ). IsLifeAt known'.lives.items log'.life (entry_member e) f) (sym now) (subst (λ (a : ℕ). IsLifeAt known'.lives.items a (entry_member e) (life_in (log_of before (entry_member e)))) (sym life)
            (at_more log.life (entry_member e) (life_in (log_of before (entry_member e))) is_known.life));
      }))
      | inr old ↦ log_elsewhere e q x known'.lives.items (λ same. old.0 (sym same)) at_more (has.logs q x old.1)
    ]

    -- another life of the member
    life_past : (a : ℕ) (x : Life) → a ≢ log.life → slice_get known.lives.items a ≡ Some x → entry_member e ≡ x.member → IsLifeOf (before ++ e ∷ []) x
    life_past a x apart at_x member =
        let is = has.each a x at_x in
        let other : life_in (log_of before x.member ++ e ∷ []) ≢ x.life = λ same. apart (
        let steps : life_in (log_of before x.member ++ e ∷ []) ≡ life_in (log_of before x.member) = life-push (log_of before x.member) e ∙ ap (λ r. life_after r (life_in (log_of before x.member))) none in
        let mine : life_in (log_of before (entry_member e)) ≡ x.life = ap (λ q. life_in (log_of before q)) member ∙ sym steps ∙ same in
        has.one a log.life (entry_member e) (life_in (log_of before (entry_member e))) (x, at_x, sym member, sym mine) is_known.life) in
        (is.0, subst (λ (t : List Entry). IsLifeBehind t is.0 x) (sym (log_of-own before e x.member member)) (life_over (log_of before x.member) e is.0 x other is.1))

    life_current : IsLifeOf (before ++ e ∷ []) more
    life_current =
        let is = has.each log.life l at_l in
        let q = entry_member e in
        let t = log_of before q in
        let behind : IsLifeBehind t is.0 l = subst (λ (q : ℕ). IsLifeBehind (log_of before q) is.0 l) current.0 is.1 in
        let on = life_goes_on t e is.0 (length log.places.items) l more none at_n current.1 behind same_life same_restart sends in
        let mine : q ≡ more.member = sym (same_member ∙ current.0) in
        (length t + 1, subst (λ (q : ℕ). IsLifeBehind (log_of (before ++ e ∷ []) q) (length t + 1) more) mine (subst (λ (u : List Entry). IsLifeBehind u (length t + 1) more) (sym own) on))

    each_on : (a : ℕ) (x : Life) → slice_get known'.lives.items a ≡ Some x → IsLifeOf (before ++ e ∷ []) x
    each_on a x is = elim (set_get known.lives.items log.life a more x (sym (ap (λ s. slice_get s a) lives) ∙ is)) [
      | inl new ↦ subst (IsLifeOf (before ++ e ∷ [])) new.1 life_current
      | inr old ↦ elim (cases_eq (entry_member e) x.member) [ inl member ↦ life_past a x old.0 old.1 member | inr other ↦ life_elsewhere e x other (has.each a x old.1) ]
    ]

    all_on : (q x : ℕ) → q < 16 → x ≤ length (log_of (before ++ e ∷ []) q) → (a : ℕ) × IsLifeAt known'.lives.items a q (life_in (take x (log_of (before ++ e ∷ []) q)))
    all_on q x in16 within = elim (cases_eq (entry_member e) q) [
      | inr other ↦
          let same : log_of before q ≡ log_of (before ++ e ∷ []) q = sym (log_of-other before e q other) in
          let found = has.all q x in16 (let size = ap length same in omega (arith, within, size)) in
          (found.0, at_more found.0 q (life_in (take x (log_of (before ++ e ∷ []) q))) (subst (λ (t : List Entry). IsLifeAt known.lives.items found.0 q (life_in (take x t))) same found.1))
      | inl mine ↦
          let t = log_of before q in
          let whole : log_of (before ++ e ∷ []) q ≡ t ++ e ∷ [] = log_of-own before e q mine in
          let size : length (t ++ e ∷ []) ≡ length t + 1 = length-append t (e ∷ []) in
          elim (cases_lt (length t) x) [
            | inl past ↦
                let found = has.all q (length t) in16 (omega arith) in
                let front : life_in (take (length t) t) ≡ life_in t = ap life_in (take_all (length t) t (omega arith)) in
                let back : life_in (take x (log_of (before ++ e ∷ []) q)) ≡ life_in t = ap life_in (ap (take x) whole ∙ take_all x (t ++ e ∷ []) (omega (arith, past, size))) ∙ life-push t e ∙ ap (λ r. life_after r (life_in t)) none in
                (found.0, at_more found.0 q (life_in (take x (log_of (before ++ e ∷ []) q))) (subst (IsLifeAt known.lives.items found.0 q) (front ∙ sym back) found.1))
            | inr inside ↦
                let found = has.all q x in16 inside in
                let same : life_in (take x t) ≡ life_in (take x (log_of (before ++ e ∷ []) q)) = sym (ap life_in (ap (take x) whole ∙ take-append-le x t (e ∷ []) inside)) in
                (found.0, at_more found.0 q (life_in (take x (log_of (before ++ e ∷ []) q))) (subst (IsLifeAt known.lives.items found.0 q) same found.1))
          ]
    ]

    pub lived_on : HasLived (before ++ e ∷ []) known'
    lived_on = record {
      lawful = (has.lawful.0 + n, lawful_more has.lawful.0 n before e has.lawful.1 law);
      logs = logs_on;
      outside = outside_more e below;
      count = ap length lives ∙ length-set known.lives.items log.life more ∙ has.count ∙ (let c : restarts (before ++ e ∷ []) ≡ restarts before + 0 = restart_counted before e ∙ ap (λ b. restarts before + cond b 1 0) (no_restart_counted e none) in omega (arith, c));
      each = each_on;
      one = λ a b q f at_a at_b. has.one a b q f (at_less a q f at_a) (at_less b q f at_b);
      all = all_on;
      tells = tells;
    }

    pub lived_kept : HasLived (before ++ e ∷ []) known' × ((a q f : ℕ) → IsLifeAt known.lives.items a q f → IsLifeAt known'.lives.items a q f)
    lived_kept = (lived_on, at_more)

  -- a restart
  module _ (n : ℕ) (r : restart.Restart) (law : IsLawful n before (Restart r)) (below : r.member < 16) (log log' : KnownLog) (known' : Lives)
      (here : slice_get known.logs.items r.member ≡ Some log) (logs : known'.logs.items ≡ set known.logs.items r.member log')
      (places : log'.places.items ≡ log.places.items ++ length before ∷ []) (stand : log'.standing.items ≡ take (r.receipts + r.sends) log.standing.items)
      (life : log'.life ≡ length known.lives.items) (l : Life) (lives : known'.lives.items ≡ known.lives.items ++ l ∷ [])
      (member_is : l.member ≡ r.member) (life_is : l.life ≡ r.life) (restart_is : l.restart ≡ Some (length log.places.items)) (sends : l.sends.items ≡ filter (λ e. is_send e.entry) log'.standing.items)
      (tells : (m : ControlMessage) → IsTellPlace (before ++ Restart r ∷ []) m (hash_map.get same_control known'.tells m)) where
    began : log_of (before ++ Restart r ∷ []) r.member ≡ log_of before r.member ++ Restart r ∷ []
    began = log_of-own before (Restart r) r.member refl

    known_log : IsKnownLog before known.lives.items r.member log
    known_log = has.logs r.member log here

    later : life_in (log_of (before ++ Restart r ∷ []) r.member) ≡ r.life
    later = ap life_in began ∙ life-push (log_of before r.member) (Restart r)

    still : (a q f : ℕ) → IsLifeAt known.lives.items a q f → IsLifeAt known'.lives.items a q f
    still a q f is = (is.0, (rw lives (At-front known.lives.items (l ∷ []) a is.0 is.1)), is.2, is.3)

    new_life : IsLifeAt known'.lives.items (length known.lives.items) r.member r.life
    new_life = (l, (rw lives (At-seam known.lives.items l [])), member_is, life_is)

    -- the number of a life is old, or that of the new one
    which : (a q f : ℕ) → IsLifeAt known'.lives.items a q f → IsLifeAt known.lives.items a q f ⊎ ((a ≡ length known.lives.items) × (q ≡ r.member) × (f ≡ r.life))
    which a q f is = elim (At-push known.lives.items l a is.0 (sym (ap (λ s. slice_get s a) lives) ∙ is.1)) [
      | inl old ↦ inl (is.0, old, is.2, is.3)
      | inr new ↦ inr (new.0, sym is.2 ∙ ap (λ l. l.member) (sym new.1) ∙ member_is, sym is.3 ∙ ap (λ l. l.life) (sym new.1) ∙ life_is)
    ]

    -- no life before had the number
    unused : (a : ℕ) → IsLifeAt known.lives.items a r.member r.life → ⊥
    unused a is =
        let le = life_known_le is.0 (has.each a is.0 is.1) in
        let mine : life_in (log_of before is.0.member) ≡ life_in (log_of before r.member) = ap (λ q. life_in (log_of before q)) is.2 in
        let more = law.0 in
        let equal = is.3 in
        omega (arith, le, mine, more, equal)

    events_now : AreEvents (log_of before r.member ++ Restart r ∷ []) (standing (log_of before r.member ++ Restart r ∷ [])) log'.standing.items
    events_now = subst (AreEvents (log_of before r.member ++ Restart r ∷ []) (standing (log_of before r.member ++ Restart r ∷ []))) (sym stand)
        (events_more (log_of before r.member) (Restart r) log.standing.items (length log.places.items) known_log.places.count known_log.standing)

    logs_begun : (q : ℕ) (x : KnownLog) → slice_get known'.logs.items q ≡ Some x → IsKnownLog (before ++ Restart r ∷ []) known'.lives.items q x
    logs_begun q x is = elim (set_get known.logs.items r.member q log' x (sym (ap (λ s. slice_get s q) logs) ∙ is)) [
      | inl new ↦ subst (λ (x : KnownLog). IsKnownLog (before ++ Restart r ∷ []) known'.lives.items q x) new.1 (subst (λ (q : ℕ). IsKnownLog (before ++ Restart r ∷ []) known'.lives.items q log') (sym new.0) (record {
        places = subst (ArePlaces (before ++ Restart r ∷ []) (log_of (before ++ Restart r ∷ []) r.member) r.member) (sym places) (places_last before (Restart r) log.places.items known_log.places);
        standing = subst (λ (t : List Entry). AreEvents t (standing t) log'.standing.items) (sym began) events_now;
        life = subst (λ (f : ℕ). IsLifeAt known'.lives.items log'.life r.member f) (sym later) (subst (λ (a : ℕ). IsLifeAt known'.lives.items a r.member r.life) (sym life) new_life);
      }))
      | inr old ↦ log_elsewhere (Restart r) q x known'.lives.items (λ same. old.0 (sym same)) still (has.logs q x old.1)
    ]

    life_ended : (a : ℕ) (x : Life) → slice_get known.lives.items a ≡ Some x → r.member ≡ x.member → IsLifeOf (before ++ Restart r ∷ []) x
    life_ended a x at_x member =
        let is = has.each a x at_x in
        let other : life_in (log_of before x.member ++ Restart r ∷ []) ≢ x.life = λ same. (
        let now : life_in (log_of before x.member ++ Restart r ∷ []) ≡ r.life = life-push (log_of before x.member) (Restart r) in
        unused a (x, at_x, sym member, sym same ∙ now)) in
        (is.0, subst (λ (t : List Entry). IsLifeBehind t is.0 x) (sym (log_of-own before (Restart r) x.member member)) (life_over (log_of before x.member) (Restart r) is.0 x other is.1))

    life_begun_now : IsLifeOf (before ++ Restart r ∷ []) l
    life_begun_now =
        let t = log_of before r.member in
        let on = life_begins t r (length log.places.items) log'.standing.items l known_log.places.count events_now life_is restart_is sends in
        (length t + 1, subst (λ (q : ℕ). IsLifeBehind (log_of (before ++ Restart r ∷ []) q) (length t + 1) l) (sym member_is) (subst (λ (u : List Entry). IsLifeBehind u (length t + 1) l) (sym began) on))

    each_begun : (a : ℕ) (x : Life) → slice_get known'.lives.items a ≡ Some x → IsLifeOf (before ++ Restart r ∷ []) x
    each_begun a x is = elim (At-push known.lives.items l a x (sym (ap (λ s. slice_get s a) lives) ∙ is)) [
      | inl old ↦ elim (cases_eq r.member x.member) [ inl member ↦ life_ended a x old member | inr other ↦ life_elsewhere (Restart r) x other (has.each a x old) ]
      | inr new ↦ subst (IsLifeOf (before ++ Restart r ∷ [])) new.1 life_begun_now
    ]

    one_begun : (a b q f : ℕ) → IsLifeAt known'.lives.items a q f → IsLifeAt known'.lives.items b q f → a ≡ b
    one_begun a b q f at_a at_b = elim (which a q f at_a) [
      | inl old_a ↦ elim (which b q f at_b) [
        | inl old_b ↦ has.one a b q f old_a old_b
        | inr new_b ↦ absurd (unused a (subst (λ (q : ℕ). IsLifeAt known.lives.items a q r.life) new_b.1 (subst (IsLifeAt known.lives.items a q) new_b.2 old_a)))
      ]
      | inr new_a ↦ elim (which b q f at_b) [
        | inl old_b ↦ absurd (unused b (subst (λ (q : ℕ). IsLifeAt known.lives.items b q r.life) new_a.1 (subst (IsLifeAt known.lives.items b q) new_a.2 old_b)))
        | inr new_b ↦ new_a.0 ∙ sym new_b.0
      ]
    ]

    all_begun : (q x : ℕ) → q < 16 → x ≤ length (log_of (before ++ Restart r ∷ []) q) → (a : ℕ) × IsLifeAt known'.lives.items a q (life_in (take x (log_of (before ++ Restart r ∷ []) q)))
    all_begun q x in16 within = elim (cases_eq r.member q) [
      | inr other ↦
          let same : log_of before q ≡ log_of (before ++ Restart r ∷ []) q = sym (log_of-other before (Restart r) q other) in
          let found = has.all q x in16 (let size = ap length same in omega (arith, within, size)) in
          (found.0, still found.0 q (life_in (take x (log_of (before ++ Restart r ∷ []) q))) (subst (λ (t : List Entry). IsLifeAt known.lives.items found.0 q (life_in (take x t))) same found.1))
      | inl mine ↦
          let t = log_of before q in
          let whole : log_of (before ++ Restart r ∷ []) q ≡ t ++ Restart r ∷ [] = log_of-own before (Restart r) q mine in
          let size : length (t ++ Restart r ∷ []) ≡ length t + 1 = length-append t (Restart r ∷ []) in
          elim (cases_lt (length t) x) [
            | inl past ↦
                let back : life_in (take x (log_of (before ++ Restart r ∷ []) q)) ≡ r.life = ap life_in (ap (take x) whole ∙ take_all x (t ++ Restart r ∷ []) (omega (arith, past, size))) ∙ life-push t (Restart r) in
                (length known.lives.items, subst (IsLifeAt known'.lives.items (length known.lives.items) q) (sym back) (subst (λ (q : ℕ). IsLifeAt known'.lives.items (length known.lives.items) q r.life) mine new_life))
            | inr inside ↦
                let found = has.all q x in16 inside in
                let same : life_in (take x t) ≡ life_in (take x (log_of (before ++ Restart r ∷ []) q)) = sym (ap life_in (ap (take x) whole ∙ take-append-le x t (Restart r ∷ []) inside)) in
                (found.0, still found.0 q (life_in (take x (log_of (before ++ Restart r ∷ []) q))) (subst (IsLifeAt known.lives.items found.0 q) same found.1))
          ]
    ]

    pub lived_begun : HasLived (before ++ Restart r ∷ []) known'
    lived_begun = record {
      lawful = (has.lawful.0 + n, lawful_more has.lawful.0 n before (Restart r) has.lawful.1 law);
      logs = logs_begun;
      outside = outside_more (Restart r) below;
      count = ap length lives ∙ length-append known.lives.items (l ∷ []) ∙ (let c = restart_counted before (Restart r) in let old = has.count in omega (arith, c, old));
      each = each_begun;
      one = one_begun;
      all = all_begun;
      tells = tells;
    }

    pub begun_kept : HasLived (before ++ Restart r ∷ []) known' × ((a q f : ℕ) → IsLifeAt known.lives.items a q f → IsLifeAt known'.lives.items a q f)
    begun_kept = (lived_begun, still)

-- ---- before the first entry

pub record IsFirstLife (q : ℕ) (l : Life) : Type 0 where
  pub member_is : l.member ≡ q
  pub life_is : l.life ≡ 0
  pub restart_is : l.restart ≡ None
  pub sends_are : l.sends.items ≡ []

pub record IsFirstLog (q : ℕ) (log : KnownLog) : Type 0 where
  pub places_are : log.places.items ≡ []
  pub standing_are : log.standing.items ≡ []
  pub life_is : log.life ≡ q

no_events : (log : List Entry) (events : List StandingEvent) → events ≡ [] → AreEvents log [] events
no_events log events none = subst (AreEvents log []) (sym none) (record { numbers = refl; entries = λ i e is. (let wrong : None ≡ Some e = is in absurd cc) })

no_places : (q : ℕ) (places : List ℕ) → places ≡ [] → ArePlaces [] [] q places
no_places q places none = subst (ArePlaces [] [] q) (sym none) (record { count = refl; each = λ k p is. (let wrong : None ≡ Some p = is in absurd cc) })

pub lived_none : (known : Lives) → length known.lives.items ≡ 16 → ((q : ℕ) (l : Life) → slice_get known.lives.items q ≡ Some l → IsFirstLife q l)
    → ((q : ℕ) (log : KnownLog) → slice_get known.logs.items q ≡ Some log → q < 16 → IsFirstLog q log) → length known.logs.items ≡ 16
    → ((m : ControlMessage) → hash_map.get same_control known.tells m ≡ None) → HasLived [] known
lived_none known count lives logs room tells = record {
  lawful = (0, λ i e is. (let wrong : None ≡ Some e = is in absurd cc));
  logs = λ q log is. (
      let below : q < 16 = (let w = slice_get_within known.logs.items q log is in omega (arith, w, room)) in
      let first = logs q log is below in
      record {
        places = no_places q log.places.items first.places_are;
        standing = no_events [] log.standing.items first.standing_are;
        life = subst (λ (a : ℕ). IsLifeAt known.lives.items a q 0) (sym first.life_is) (first_at q below);
      });
  outside = λ q past. refl;
  count = count;
  each = λ a l is. (
      let first = lives a l is in (
        0,
        record {
          within = omega arith;
          life = first.life_is;
          last = λ y below same. below;
          restart = subst (IsLastRestartBehind [] 0) (sym first.restart_is) (λ k r below _. omega (arith, below));
          sends = no_events [] l.sends.items first.sends_are;
        },
      ));
  one = λ a b q f at_a at_b. (let x = (lives a at_a.0 at_a.1).member_is in let y = (lives b at_b.0 at_b.1).member_is in sym x ∙ at_a.2 ∙ sym at_b.2 ∙ y);
  all = λ q x below within. (q, subst (λ (x : ℕ). IsLifeAt known.lives.items q q (life_in (take x []))) (let none : 0 ≡ x = omega (arith, within) in none) (first_at q below));
  tells = λ m. subst (IsTellPlace [] m) (sym (tells m)) (λ has. (let wrong : None ≡ Some (Tell m) = has.1 in cc));
} where
  first_at : (q : ℕ) → q < 16 → IsLifeAt known.lives.items q q 0
  first_at q below = (let l = some_life known.lives.items q (omega (arith, below, count)) in let first = lives q l.0 l.1 in (l.0, l.1, first.member_is, first.life_is)) where
    some_life : (ls : List Life) (p : ℕ) → p < length ls → (l : Life) × (slice_get ls p ≡ Some l)
    some_life [] p below = absurd (omega (arith, below))
    some_life (x ∷ xs) zero below = (x, refl)
    some_life (x ∷ xs) (suc p) below = some_life xs p (omega (arith, below))
