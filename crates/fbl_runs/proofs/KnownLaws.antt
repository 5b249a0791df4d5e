-- What a pass knows of the members' lives finds sends.
use Rattle.fbl_runs.proofs.Common.{ℕ, zero, suc, ◌≡◌, ◌≢◌, ◌<◌, ◌≤◌, ◌+◌, inl, inr, List, [], ◌∷◌, length, take, Option, Some, None, slice_get, refl, sym, ap, subst, ◌∙◌, arith}
use Rattle.fbl_runs.proofs.Common.{cases_lt, slice_get_within}
use Rattle.fbl_runs.proofs.Common.{Send, Entry, Event, Restart, restart_in, log_of, at, IsAt}
use Rattle.std.proofs.Common.{map, ◌-◌}
use Rattle.fbl_trace.proofs.Gets.{map-At}
use Rattle.fbl_runs.specs.declared.lives.Life.{Life}
use Rattle.fbl_runs.specs.declared.lives.Lives.{Lives}
use Rattle.fbl_runs.specs.declared.lives.StandingEvent.{StandingEvent}
use Rattle.fbl_runs.specs.declared.entry.Restart as restart
use Rattle.fbl_runs.specs.KnownLives.{HasLived, IsBeginning, IsLastRestartBehind, IsLifeAt, IsLifeBehind, is_send_at, sends_behind, sent_to}
use Rattle.fbl_runs.specs.Lives.{life_after, life_in, standing}
use Rattle.fbl_runs.specs.Rules.{IsSentInLife}
use Rattle.fbl_runs.proofs.LifeLaws.{LivesRise, are_standing, life-more, restart_is, stands_in_life, take-none}
use Rattle.fbl_runs.proofs.LeadsLaws.{lives_rise, sends_numbered}
use Rattle.fbl_runs.proofs.Listing.{locate_all}
use Rattle.fbl_runs.proofs.SendLaws.{from_filter, send_stands_at, sends_are_numbered}

module _ (before : List Entry) (known : Lives) (has : HasLived before known) where
  -- a member with an entry is one of the 16
  pub member_below : (q k : ℕ) (e : Entry) → IsAt (log_of before) (at q k) e → q < 16
  member_below q k e is = elim (cases_lt q 16) [
    | inl below ↦ below
    | inr past ↦ absurd (let none : None ≡ Some e = ap (λ log. slice_get log k) (sym (has.outside q past)) ∙ is in cc)
  ]

  -- a life in which a send stands has a number
  pub sent_life : (from ssn to life k : ℕ) → IsSentInLife (log_of before) from ssn to life k → (number : ℕ) × IsLifeAt known.lives.items number from life
  sent_life from ssn to life k sent =
      let found = has.all from sent.1.0 (member_below from k (Event (Send from ssn to)) sent.0) sent.1.1 in
      (found.0, subst (IsLifeAt known.lives.items found.0 from) sent.1.2 found.1)

  module _ (number from life : ℕ) (l : Life) (here : slice_get known.lives.items number ≡ Some l) (member_is : l.member ≡ from) (life_is : l.life ≡ life) where
    rise : LivesRise (log_of before from)
    rise = lives_rise has.lawful.0 before has.lawful.1 from

    is_behind : (x : ℕ) × IsLifeBehind (log_of before from) x l
    is_behind = (let is = has.each number l here in (is.0, subst (λ (q : ℕ). IsLifeBehind (log_of before q) is.0 l) member_is is.1))

    -- a send that stands in the life is among those that are known
    pub sent_known : (ssn to k : ℕ) → IsSentInLife (log_of before) from ssn to life k
        → (i : ℕ) × (ssn ≡ suc i) × (ev : StandingEvent) × (slice_get l.sends.items i ≡ Some ev) × (ev.number ≡ k) × (ev.entry ≡ Event (Send from ssn to))
    sent_known ssn to k sent =
        let log = log_of before from in
        let x = is_behind.0 in
        let is = is_behind.1 in
        let w = sent.1 in
        let before_x : w.0 ≤ x = is.last w.0 w.1 (w.2 ∙ sym life_is) in
        let stands = stands_in_life log rise k w.0 x w.3 before_x (w.2 ∙ sym life_is ∙ is.life) in
        let place = send_stands_at log (sends_numbered has.lawful.0 before has.lawful.1 from) x k from ssn to sent.0 stands in
        let in_map : slice_get (map (λ e. e.number) l.sends.items) place.0 ≡ Some k = ap (λ s. slice_get s place.0) is.sends.numbers ∙ place.2 in
        let event = map-At (λ e. e.number) l.sends.items place.0 k in_map in
        let entry : event.0.entry ≡ Event (Send from ssn to) = (
        let there : slice_get log k ≡ Some event.0.entry = subst (λ (n : ℕ). slice_get log n ≡ Some event.0.entry) event.2 (is.sends.entries place.0 event.0 event.1) in
        let some : Some event.0.entry ≡ Some (Event (Send from ssn to)) = sym there ∙ sent.0 in cc) in
        (place.0, place.1, event.0, event.1, event.2, entry)

    -- and each that is known stands in it
    pub known_sent : (i : ℕ) (ev : StandingEvent) → slice_get l.sends.items i ≡ Some ev → (to : ℕ) × (ev.entry ≡ Event (Send from (suc i) to)) × IsSentInLife (log_of before) from (suc i) to life ev.number
    known_sent i ev at_i =
        let log = log_of before from in
        let x = is_behind.0 in
        let is = is_behind.1 in
        let in_behind : slice_get (sends_behind log x) i ≡ Some ev.number = sym (ap (λ s. slice_get s i) is.sends.numbers) ∙ slice_get-map (λ e. e.number) l.sends.items i ev at_i in
        let numbered = sends_are_numbered log (sends_numbered has.lawful.0 before has.lawful.1 from) x i ev.number in_behind in
        let located = locate_all before from ev.number (Event (Send numbered.0 (suc i) numbered.1)) numbered.2 in
        let own : numbered.0 ≡ from = located.3 in
        let at_from : slice_get log ev.number ≡ Some (Event (Send from (suc i) numbered.1)) = numbered.2 ∙ ap (λ f. Some (Event (Send f (suc i) numbered.1))) own in
        let entry : ev.entry ≡ Event (Send from (suc i) numbered.1) = (let some : Some ev.entry ≡ Some (Event (Send from (suc i) numbered.1)) = sym (is.sends.entries i ev at_i) ∙ at_from in cc) in
        let among = (from_filter (is_send_at log) (standing (take x log)) i ev.number in_behind).0 in
        let stands = ((are_standing log x ev.number).0 among).1 in
        (numbered.1, entry, (at_from, (x, is.within, sym is.life ∙ life_is, stands))) where
          slice_get-map : {X Y : Type 0} (f : X → Y) (xs : List X) (i : ℕ) (x : X) → slice_get xs i ≡ Some x → slice_get (map f xs) i ≡ Some (f x)
          slice_get-map f [] i x is = cc
          slice_get-map f (y ∷ xs) zero x is = (let same : y ≡ x = cc in ap (λ y. Some (f y)) same)
          slice_get-map f (y ∷ xs) (suc i) x is = slice_get-map f xs i x is

    -- no message has the send number 0
    pub no_zero : (ssn to : ℕ) → ¬ (1 ≤ ssn) → (k : ℕ) → ¬ (IsSentInLife (log_of before) from ssn to life k)
    no_zero ssn to none k sent = (let i = sent_known ssn to k sent in let number = i.1 in none (omega (arith, number)))

    -- none past the last one that is known
    pub none_past : (ssn to : ℕ) → length l.sends.items ≤ ssn - 1 → (k : ℕ) → ¬ (IsSentInLife (log_of before) from ssn to life k)
    none_past ssn to past k sent =
        let i = sent_known ssn to k sent in
        let within = slice_get_within l.sends.items i.0 i.2 i.3 in
        let number = i.1 in
        omega (arith, within, number, past)

    -- the one with the number is sent to one member
    pub sent_elsewhere : (ssn to : ℕ) (ev : StandingEvent) → slice_get l.sends.items (ssn - 1) ≡ Some ev → sent_to ev.entry ≢ Some to → (k : ℕ) → ¬ (IsSentInLife (log_of before) from ssn to life k)
    sent_elsewhere ssn to ev here other k sent =
        let i = sent_known ssn to k sent in
        let number : ssn - 1 ≡ i.0 = (let n = i.1 in omega (arith, n)) in
        let there : slice_get l.sends.items (ssn - 1) ≡ Some i.2 = ap (slice_get l.sends.items) number ∙ i.3 in
        let same : ev ≡ i.2 = (let some : Some ev ≡ Some i.2 = sym here ∙ there in cc) in
        other (ap (λ ev. sent_to ev.entry) same ∙ ap sent_to i.5)

    pub sent_there : (ssn to : ℕ) (ev : StandingEvent) → 1 ≤ ssn → slice_get l.sends.items (ssn - 1) ≡ Some ev → Some to ≡ sent_to ev.entry → IsSentInLife (log_of before) from ssn to life ev.number
    sent_there ssn to ev least here addressed =
        let known_to = known_sent (ssn - 1) ev here in
        let number : suc (ssn - 1) ≡ ssn = omega (arith, least) in
        let receiver : known_to.0 ≡ to = (let some : Some known_to.0 ≡ Some to = sym (ap sent_to known_to.1) ∙ sym addressed in cc) in
        subst (λ (s : ℕ). IsSentInLife (log_of before) from s to life ev.number) number (subst (λ (t : ℕ). IsSentInLife (log_of before) from (suc (ssn - 1)) t life ev.number) receiver known_to.2)

    -- each is sent to somebody
    pub sent_to_one : (i : ℕ) (ev : StandingEvent) → slice_get l.sends.items i ≡ Some ev → sent_to ev.entry ≢ None
    sent_to_one i ev here none = (let known_to = known_sent i ev here in let wrong : None ≡ Some known_to.0 = sym none ∙ ap sent_to known_to.1 in cc)

-- ---- what begins a life

-- where no restart stands, the life stays
pub life_still : (log : List Entry) (x d : ℕ) → ((k : ℕ) (r : restart.Restart) → x ≤ k → k < x + d → slice_get log k ≢ Some (Restart r)) → life_in (take x log) ≡ life_in (take (x + d) log)
life_still log x zero none = (let same : x + 0 ≡ x = omega arith in (rw same refl))
life_still log x (suc d) none =
    let rest = life_still log x d (λ k r after below. none k r after (omega (arith, below))) in
    let last : life_in (take (x + d) log) ≡ life_in (take (suc (x + d)) log) = by_entry (slice_get log (x + d)) refl in
    let same : suc (x + d) ≡ x + suc d = omega arith in
    rest ∙ last ∙ ap (λ n. life_in (take n log)) same where
      by_entry : (o : Option Entry) → slice_get log (x + d) ≡ o → life_in (take (x + d) log) ≡ life_in (take (suc (x + d)) log)
      by_entry None at_none = sym (ap life_in (take-none log (x + d) at_none))
      by_entry (Some e) here = by_kind (restart_in e) refl where
        by_kind : (a : Option restart.Restart) → restart_in e ≡ a → life_in (take (x + d) log) ≡ life_in (take (suc (x + d)) log)
        by_kind None is = sym (life-more log (x + d) e here ∙ ap (λ r. life_after r (life_in (take (x + d) log))) is)
        by_kind (Some r) is = absurd (none (x + d) r (omega arith) (omega arith) (here ∙ ap Some (restart_is e r is)))

module _ (before : List Entry) (known : Lives) (has : HasLived before known) where
  -- a life that has no number did not begin
  pub no_number : (from life : ℕ) → ((number : ℕ) → ¬ (IsLifeAt known.lives.items number from life)) → IsBeginning before from life None
  no_number from life none k r here same =
      let log = log_of before from in
      let within = slice_get_within log k (Restart r) here in
      let found = has.all from (suc k) (member_below before known has from k (Restart r) here) (omega (arith, within)) in
      none found.0 (subst (IsLifeAt known.lives.items found.0 from) (life-more log k (Restart r) here ∙ same) found.1)

  module _ (number from life : ℕ) (l : Life) (here : slice_get known.lives.items number ≡ Some l) (member_is : l.member ≡ from) (life_is : l.life ≡ life) where
    life_behind : (x : ℕ) × IsLifeBehind (log_of before from) x l
    life_behind = (let is = has.each number l here in (is.0, subst (λ (q : ℕ). IsLifeBehind (log_of before q) is.0 l) member_is is.1))

    pub first_begun : l.restart ≡ None → IsBeginning before from life None
    first_begun none k r at_k same =
        let log = log_of before from in
        let x = life_behind.0 in
        let is = life_behind.1 in
        let free = subst (IsLastRestartBehind log x) none is.restart in
        let within = slice_get_within log k (Restart r) at_k in
        elim (cases_lt k x) [
          | inl inside ↦ free k r inside at_k
          | inr past ↦ (let past' = is.last (suc k) (omega (arith, within)) (life-more log k (Restart r) at_k ∙ same ∙ sym life_is) in omega (arith, past, past'))
        ]

    pub begun_at : (k : ℕ) → l.restart ≡ Some k → (r : restart.Restart) × (slice_get (log_of before from) k ≡ Some (Restart r)) × (r.life ≡ life)
    begun_at k some =
        let log = log_of before from in
        let x = life_behind.0 in
        let is = life_behind.1 in
        let last = subst (IsLastRestartBehind log x) some is.restart in
        let r = last.1.0 in
        let size : suc k + (x - suc k) ≡ x = (let b = last.0 in omega (arith, b)) in
        let still = life_still log (suc k) (x - suc k) (λ m s after below. last.2 m s after (omega (arith, below, size))) in
        let begun = life-more log k (Restart r) last.1.1 in
        (r, last.1.1, sym begun ∙ still ∙ ap (λ n. life_in (take n log)) size ∙ sym is.life ∙ life_is)
