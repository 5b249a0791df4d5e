-- What a pass finds of an entry when it comes is what leads to it in the whole list.
use Rattle.fbl_runs.proofs.Common.{ℕ, zero, suc, ◌≡◌, ◌≢◌, ◌<◌, ◌≤◌, ◌+◌, ◌⊎◌, inl, inr, List, [], ◌∷◌, length, take, Option, Some, None, slice_get, refl, sym, ap, subst, ◌∙◌, arith, add-one}
use Rattle.fbl_runs.proofs.Common.{slice_get_within, slice_get-take, take_all, length-take, false, true, false≢true}
use Rattle.fbl_runs.proofs.Common.{Mark, Send, Receipt, Determinant, ControlMessage, Entry, Event, LaterReceipt, Restart, Tell, Told, mark_in, receipt_in, receipt_of, restart_in, named_life, send_of}
use Rattle.fbl_runs.proofs.Common.{Begins, IsAt, IsEarlier, Position, StandsInLife, StoodBefore, at, entry_member, log_of}
use Rattle.std.proofs.Common.{MatchOption, map, ◌-◌}
use Rattle.std.proofs.lemmas.List.{length-map, take-take}
use Rattle.std.proofs.lemmas.Option.{slice_get-map}
use Rattle.std.specs.Option.{is_some, option_map}
use Rattle.fbl_runs.specs.declared.entry.Restart as restart
use Rattle.fbl_runs.specs.declared.lives.KnownLog.{KnownLog}
use Rattle.fbl_runs.specs.declared.lives.Lives.{Lives}
use Rattle.fbl_runs.specs.declared.lives.StandingEvent.{StandingEvent}
use Rattle.fbl_runs.specs.Clocks.{StandsAt, seen}
use Rattle.fbl_runs.specs.KnownLives.{HasLived, IsBeginning, IsKnownLog, IsLifeAt, IsTellPlace}
use Rattle.fbl_runs.specs.Links.{IsLastPlace, IsMessageOf, IsPlaceOf}
use Rattle.fbl_runs.specs.Lives.{life_in, standing}
use Rattle.fbl_runs.specs.Rules.{AreLawful, IsLawful, IsSentInLife, restarts}
use Rattle.fbl_runs.proofs.ControlLaws.{told_before}
use Rattle.fbl_runs.proofs.DueLaws.{mark_of_receipt}
use Rattle.fbl_runs.proofs.LeadsLaws.{are_told, begins_before, here_stands, in_life_in_whole, lives_rise, log_of_front, stands_somewhere}
use Rattle.fbl_runs.proofs.LifeLaws.{get_from_take}
use Rattle.fbl_runs.proofs.LinkLaws.{begun_place, carried_place, first_entry, first_stood, last_kept, no_message, none_kept, not_begun, previous_entry, previous_stood, told_place}
use Rattle.fbl_runs.proofs.Listing.{seen-own, stands_at}
use Rattle.fbl_runs.proofs.RestartCounts.{restarts_next}

-- ---- the front of a list

pub stands_front : (entries : List Entry) (x p : ℕ) (i : Position) → StandsAt (take x entries) p i → p < x → StandsAt entries p i
stands_front entries x p i stands within =
    let same : take p (take x entries) ≡ take p entries = take-take p x entries (omega (arith, within)) in
    (stands.0, get_from_take x entries p stands.0 stands.1, stands.2, sym (ap (λ t. length (log_of t i.member)) same) ∙ stands.3)

pub stands_whole : (entries : List Entry) (x p : ℕ) (i : Position) → StandsAt (take x entries) p i → StandsAt entries p i
stands_whole entries x p i stands = stands_front entries x p i stands (within_take x entries p stands.0 stands.1) where
  within_take : {X : Type 0} (n : ℕ) (xs : List X) (i : ℕ) (x : X) → slice_get (take n xs) i ≡ Some x → i < n
  within_take n xs i x is = (let w = slice_get_within (take n xs) i x is in omega (arith, w, length-take n xs))

-- a message that is sent in the first ones is sent in more of them, and in all
pub sent_more : (entries : List Entry) (x y from ssn to life k : ℕ) → x ≤ y → IsSentInLife (log_of (take x entries)) from ssn to life k → IsSentInLife (log_of (take y entries)) from ssn to life k
sent_more entries x y from ssn to life k within sent =
    let more = take y entries in
    let front : log_of (take x entries) from ≡ take (seen more x from) (log_of more from) = ap (λ t. log_of t from) (sym (take-take x y entries within)) ∙ log_of_front more x from in (
      get_from_take (seen more x from) (log_of more from) k (Event (Send from ssn to)) (sym (ap (λ s. slice_get s k) front) ∙ sent.0),
      in_life_in_whole (log_of more from) (seen more x from) life k (subst (λ (t : List Entry). StandsInLife t life k) front sent.1),
    )

pub sent_whole : (entries : List Entry) (x from ssn to life k : ℕ) → IsSentInLife (log_of (take x entries)) from ssn to life k → IsSentInLife (log_of entries) from ssn to life k
sent_whole entries x from ssn to life k sent =
    let front = log_of_front entries x from in (
      get_from_take (seen entries x from) (log_of entries from) k (Event (Send from ssn to)) (sym (ap (λ s. slice_get s k) front) ∙ sent.0),
      in_life_in_whole (log_of entries from) (seen entries x from) life k (subst (λ (t : List Entry). StandsInLife t life k) front sent.1),
    )

-- ---- the kinds of entries

pub nothing_taken : (e : Entry) → receipt_in e ≡ None → (r s : Mark) → mark_in e ≡ Some r → send_of r ≡ Some s → ⊥
nothing_taken (Event (Send from ssn to)) none r s mark takes = (
    let same : Send from ssn to ≡ r = (let some : Some (Send from ssn to) ≡ Some r = mark in cc) in
    let wrong : None ≡ Some s = ap send_of same ∙ takes in cc)
nothing_taken (Event (Receipt to rsn from ssn)) none r s mark takes = (let made : Determinant = record { from = from; ssn = ssn; to = to; rsn = rsn } in let wrong : Some made ≡ None = none in cc)
nothing_taken (LaterReceipt x life) none r s mark takes = (let wrong : Some x ≡ None = none in cc)
nothing_taken e none r s mark takes = (let wrong : None ≡ Some r = mark in cc)

-- a receipt's message was sent before
taken_before : (n : ℕ) (before : List Entry) (e : Entry) (d : Determinant) → receipt_in e ≡ Some d → IsLawful n before e → (k : ℕ) × IsSentInLife (log_of before) d.from d.ssn d.to (named_life e) k
taken_before n before (Event (Receipt to rsn from ssn)) d is law = (
    let made : Determinant = record { from = from; ssn = ssn; to = to; rsn = rsn } in
    let same : made ≡ d = (let some : Some made ≡ Some d = is in cc) in
    subst (λ (d : Determinant). (k : ℕ) × IsSentInLife (log_of before) d.from d.ssn d.to 0 k) same law)
taken_before n before (Event (Send from ssn to)) d is law = absurd (let wrong : None ≡ Some d = is in cc)
taken_before n before (LaterReceipt x life) d is law = (
    let same : x ≡ d = (let some : Some x ≡ Some d = is in cc) in
    subst (λ (d : Determinant). (k : ℕ) × IsSentInLife (log_of before) d.from d.ssn d.to life k) same law)
taken_before n before e d is law = absurd (let wrong : None ≡ Some d = is in cc)

-- it names a life, or the first one
life_of_receipt : (e : Entry) (d : Determinant) → receipt_in e ≡ Some d → (e ≡ LaterReceipt d (named_life e)) ⊎ (named_life e ≡ 0)
life_of_receipt (LaterReceipt x life) d is = inl (let same : x ≡ d = (let some : Some x ≡ Some d = is in cc) in ap (λ (d : Determinant). LaterReceipt d life) same)
life_of_receipt e d is = inr refl

pub restart_some : (e : Entry) → is_some (restart_in e) ≡ true → (r : restart.Restart) × (e ≡ Restart r)
restart_some (Restart r) some = (r, refl)
restart_some e some = absurd (false≢true some)

pub restart_none : (e : Entry) → is_some (restart_in e) ≡ false → restart_in e ≡ None
restart_none (Restart r) none = absurd (false≢true (sym none))
restart_none e none = refl

-- ---- few lives

few_before : (n : ℕ) (entries : List Entry) → AreLawful n entries → (x : ℕ) → restarts (take x entries) ≤ 8
few_before n entries lawful zero = omega arith
few_before n entries lawful (suc x) =
    let few = few_before n entries lawful x in
    elim (restarts_next entries x) [
      | inl same ↦ omega (arith, same, few)
      | inr more ↦ (let law = (lawful x (Restart more.0) more.1).1 in let count = more.2 in omega (arith, count, law))
    ]

pub few_lives : (before : List Entry) (known : Lives) → HasLived before known → (number member life : ℕ) → IsLifeAt known.lives.items number member life → number < 24
few_lives before known has number member life is =
    let within = slice_get_within known.lives.items number is.0 is.1 in
    let count = has.count in
    let few = few_before has.lawful.0 before has.lawful.1 (length before) in
    let all = ap restarts (take_all (length before) before (omega arith)) in
    omega (arith, within, count, few, all)

-- ---- the entry at the place, the last one that has come

module _ (n : ℕ) (entries : List Entry) (lawful : AreLawful n entries) (place : ℕ) (j : Position) (e : Entry) (stands : StandsAt entries place j) (here : slice_get entries place ≡ Some e)
    (known : Lives) (has : HasLived (take (place + 1) entries) known) where
  abbrev before : List Entry
  before = take (place + 1) entries

  at_j : IsAt (log_of entries) j e
  at_j = stands_at entries place j e stands here

  pub own : entry_member e ≡ j.member
  own = (let same : stands.0 ≡ e = (let some : Some stands.0 ≡ Some e = sym stands.1 ∙ here in cc) in ap entry_member (sym same) ∙ stands.2)

  pub seen_now : seen entries (place + 1) j.member ≡ j.number + 1
  seen_now = (rw add-one (seen-own entries place e j.member here own)) ∙ ap (λ k. k + 1) stands.3

  pub log_now : log_of before j.member ≡ take (j.number + 1) (log_of entries j.member)
  log_now = log_of_front entries (place + 1) j.member ∙ ap (λ k. take k (log_of entries j.member)) seen_now

  module _ (log : KnownLog) (is : IsKnownLog before known.lives.items j.member log) where
    pub size : length log.places.items ≡ j.number + 1
    size = is.places.count ∙ seen_now

    placed_at : (k p : ℕ) → slice_get log.places.items k ≡ Some p → StandsAt entries p (at j.member k)
    placed_at k p at_k = stands_whole entries (place + 1) p (at j.member k) (is.places.each k p at_k)

    pub previous_part : (o : Option ℕ) → MatchOption o (length log.places.items < 2) (λ p. (2 ≤ length log.places.items) × (slice_get log.places.items (length log.places.items - 2) ≡ Some p))
        → IsLastPlace entries (λ i. IsEarlier (log_of entries) i j) (IsEarlier (log_of entries)) o
    previous_part None few = first_entry entries j e at_j (let s = size in omega (arith, s, few))
    previous_part (Some p) found =
        let k = length log.places.items - 2 in
        let number : j.number ≡ suc k = (let s = size in let two = found.0 in omega (arith, s, two)) in
        previous_entry entries j e at_j p k number (placed_at k p found.1)

    pub stood_part : (o : Option ℕ) → restart_in e ≡ None → MatchOption o (length log.places.items < 2) (λ p. (2 ≤ length log.places.items) × (slice_get log.places.items (length log.places.items - 2) ≡ Some p))
        → IsLastPlace entries (λ i. StoodBefore (log_of entries) i j) (StoodBefore (log_of entries)) o
    stood_part None none few = first_stood entries j e at_j (let s = size in omega (arith, s, few))
    stood_part (Some p) none found =
        let k = length log.places.items - 2 in
        let number : j.number ≡ suc k = (let s = size in let two = found.0 in omega (arith, s, two)) in
        previous_stood entries j e at_j p k none number (placed_at k p found.1)

    -- the events that stand have their places
    pub events_placed : (i : ℕ) (ev : StandingEvent) → slice_get log.standing.items i ≡ Some ev → ev.number < length log.places.items
    events_placed i ev at_i = (let w = slice_get_within (log_of before j.member) ev.number ev.entry (is.standing.entries i ev at_i) in let c = is.places.count in omega (arith, w, c))

    numbers_now : map (λ ev. ev.number) log.standing.items ≡ standing (take (j.number + 1) (log_of entries j.member))
    numbers_now = is.standing.numbers ∙ ap standing log_now

    pub kept_part : (o : Option ℕ) (r : restart.Restart) → e ≡ Restart r → MatchOption o (length log.standing.items ≡ 0)
        (λ p. (i : ℕ) × (ev : StandingEvent) × (length log.standing.items ≡ i + 1) × (slice_get log.standing.items i ≡ Some ev) × (slice_get log.places.items ev.number ≡ Some p))
        → IsLastPlace entries (λ i. StoodBefore (log_of entries) i j) (StoodBefore (log_of entries)) o
    kept_part None r restart none = none_kept entries j e at_j r restart (sym numbers_now ∙ ap (map (λ ev. ev.number)) (empty log.standing.items none)) where
      empty : (xs : List StandingEvent) → length xs ≡ 0 → xs ≡ []
      empty [] none = refl
      empty (x ∷ xs) none = absurd (omega (arith, none))
    kept_part (Some p) r restart found =
        let i = found.0 in
        let ev = found.1 in
        let at_last : slice_get (standing (take (j.number + 1) (log_of entries j.member))) i ≡ Some ev.number =
        sym (ap (λ s. slice_get s i) numbers_now) ∙ slice_get-map (λ ev. ev.number) log.standing.items i ∙ ap (option_map (λ ev. ev.number)) found.3 in
        let count : length (standing (take (j.number + 1) (log_of entries j.member))) ≡ suc i =
        sym (ap length numbers_now) ∙ length-map log.standing.items (λ ev. ev.number) ∙ (let c = found.2 in omega (arith, c)) in
        last_kept entries j e at_j r restart p ev.number i at_last count (placed_at ev.number p found.4)

    pub life_part : IsLifeAt known.lives.items log.life j.member (life_in (take (j.number + 1) (log_of entries j.member)))
    life_part = subst (λ (t : List Entry). IsLifeAt known.lives.items log.life j.member (life_in t)) log_now is.life

  -- ---- what comes in

  pub told_part : (m : ControlMessage) (o : Option ℕ) → e ≡ Told m → IsTellPlace before m o → IsPlaceOf entries (IsMessageOf (log_of entries) j) o
  told_part m None told none = absurd (
      let w = told_before n entries (are_told n entries lawful) place m (here ∙ ap Some told) in
      none (w.0, slice_get-take entries (place + 1) w.0 (Tell m) (let b = w.1 in omega (arith, b)) w.2))
  told_part m (Some p) told found =
      let at_p : slice_get entries p ≡ Some (Tell m) = get_from_take (place + 1) entries p (Tell m) found in
      let i = at m.from (seen entries p m.from) in
      let there : StandsAt entries p i = here_stands entries p (Tell m) at_p in
      told_place n entries lawful j e at_j p i there (m, stands_at entries p i (Tell m) there at_p, at_j ∙ ap Some told)

  pub taken_part : (d : Determinant) (o : Option ℕ) → receipt_in e ≡ Some d
      → MatchOption o ((k : ℕ) → ¬ (IsSentInLife (log_of before) d.from d.ssn d.to (named_life e) k)) (λ p. (k : ℕ) × IsSentInLife (log_of before) d.from d.ssn d.to (named_life e) k × StandsAt before p (at d.from k))
      → IsPlaceOf entries (IsMessageOf (log_of entries) j) o
  taken_part d None is none = absurd (
      let sent = taken_before n (take place entries) e d is (lawful place e here) in
      none sent.0 (sent_more entries place (place + 1) d.from d.ssn d.to (named_life e) sent.0 (omega arith) sent.1))
  taken_part d (Some p) is found =
      let k = found.0 in
      let sent = sent_whole entries (place + 1) d.from d.ssn d.to (named_life e) k found.1 in
      let there = stands_whole entries (place + 1) p (at d.from k) found.2 in
      carried_place n entries lawful j e at_j p (at d.from k) there (Send d.from d.ssn d.to, receipt_of d, e, sent.0, at_j, mark_of_receipt e d is, refl, sent.1)

  pub message_part : (o : Option ℕ) → ((m : ControlMessage) → e ≡ Told m → IsTellPlace before m o)
      → ((d : Determinant) → receipt_in e ≡ Some d
      → MatchOption o ((k : ℕ) → ¬ (IsSentInLife (log_of before) d.from d.ssn d.to (named_life e) k)) (λ p. (k : ℕ) × IsSentInLife (log_of before) d.from d.ssn d.to (named_life e) k × StandsAt before p (at d.from k)))
      → (((m : ControlMessage) → e ≢ Told m) → receipt_in e ≡ None → o ≡ None) → IsPlaceOf entries (IsMessageOf (log_of entries) j) o
  message_part o told taken other = by_kind (told_or_not e) (receipt_in e) refl where
    told_or_not : (x : Entry) → ((m : ControlMessage) × (x ≡ Told m)) ⊎ ((m : ControlMessage) → x ≢ Told m)
    told_or_not (Told m) = inl (m, refl)
    told_or_not e = inr (λ t is. cc)

    by_kind : ((m : ControlMessage) × (e ≡ Told m)) ⊎ ((m : ControlMessage) → e ≢ Told m) → (x : Option Determinant) → receipt_in e ≡ x → IsPlaceOf entries (IsMessageOf (log_of entries) j) o
    by_kind (inl is) x _ = told_part is.0 o is.1 (told is.0 is.1)
    by_kind (inr untold) (Some d) is = taken_part d o is (taken d is)
    by_kind (inr untold) None is = subst (λ (o : Option ℕ). IsPlaceOf entries (IsMessageOf (log_of entries) j) o) (sym (other untold is)) (no_message n entries lawful j e at_j untold (nothing_taken e is))

  -- ---- what begins the life that it names

  names_receipt : (i : Position) (begins : Begins (log_of entries) i j) → e ≡ LaterReceipt begins.1 begins.0.life
  names_receipt i begins = (let some : Some e ≡ Some (LaterReceipt begins.1 begins.0.life) = sym at_j ∙ begins.3 in cc)

  pub begun_part : (d : Determinant) (o : Option ℕ) → receipt_in e ≡ Some d → IsBeginning before d.from (named_life e) o → IsPlaceOf entries (λ i. Begins (log_of entries) i j) o
  begun_part d None is none = not_begun n entries lawful j e at_j (λ i begins. (
      let r = begins.0 in
      let there = stands_somewhere entries i (Restart r) begins.2 in
      let earlier : there.0 < place = begins_before n entries lawful there.0 place i j there.2 stands begins in
      let named = names_receipt i begins in
      let receipt : begins.1 ≡ d = (let some : Some begins.1 ≡ Some d = sym (ap receipt_in named) ∙ is in cc) in
      let from : i.member ≡ d.from = sym begins.4 ∙ ap (λ d. d.from) receipt in
      let now : StandsAt before there.0 i = front_stands there.0 i earlier there.2 in
      let at_i : slice_get (log_of before i.member) i.number ≡ Some (Restart r) = stands_at before there.0 i (Restart r) now (slice_get-take entries (place + 1) there.0 (Restart r) (omega (arith, earlier)) there.1) in
      none i.number r (subst (λ (q : ℕ). slice_get (log_of before q) i.number ≡ Some (Restart r)) from at_i) (sym (ap named_life named)))) where
        front_stands : (p : ℕ) (i : Position) → p < place → StandsAt entries p i → StandsAt before p i
        front_stands p i earlier stands =
            let same : take p before ≡ take p entries = take-take p (place + 1) entries (omega (arith, earlier)) in
            (stands.0, slice_get-take entries (place + 1) p stands.0 (omega (arith, earlier)) stands.1, stands.2, ap (λ t. length (log_of t i.member)) same ∙ stands.3)
  begun_part d (Some p) is found =
      let k = found.0 in
      let r = found.1 in
      let there = stands_whole entries (place + 1) p (at d.from k) found.2 in
      let front = log_of_front entries (place + 1) d.from in
      let at_k : slice_get (log_of entries d.from) k ≡ Some (Restart r) = get_from_take (seen entries (place + 1) d.from) (log_of entries d.from) k (Restart r) (sym (ap (λ s. slice_get s k) front) ∙ found.3) in
      elim (life_of_receipt e d is) [
        | inl later ↦ begun_place n entries lawful j e at_j p (at d.from k) there (r, d, at_k, at_j ∙ ap Some (later ∙ ap (λ f. LaterReceipt d f) (sym found.4)), refl)
        | inr first ↦ absurd (let more = lives_rise n entries lawful d.from k r at_k in let life = found.4 in omega (arith, more, life, first))
      ]

  pub begins_part : (o : Option ℕ) → ((d : Determinant) → receipt_in e ≡ Some d → IsBeginning before d.from (named_life e) o) → (receipt_in e ≡ None → o ≡ None) → IsPlaceOf entries (λ i. Begins (log_of entries) i j) o
  begins_part o receipt other = by_receipt (receipt_in e) refl where
    by_receipt : (x : Option Determinant) → receipt_in e ≡ x → IsPlaceOf entries (λ i. Begins (log_of entries) i j) o
    by_receipt (Some d) is = begun_part d o is (receipt d is)
    by_receipt None is = subst (λ (o : Option ℕ). IsPlaceOf entries (λ i. Begins (log_of entries) i j) o) (sym (other is)) (not_begun n entries lawful j e at_j (λ i begins. (let wrong : None ≡ Some begins.1 = sym is ∙ ap receipt_in (names_receipt i begins) in cc)))
