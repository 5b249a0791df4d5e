-- What leads to an entry at once is what a pass finds.
use Rattle.fbl_runs.proofs.Common.{ℕ, zero, suc, ◌≡◌, ◌≢◌, ◌<◌, ◌≤◌, ◌+◌, ◌⊎◌, ◌↔◌, inl, inr, List, [], ◌∷◌, ◌++◌, length, take, Option, Some, None, slice_get, refl, sym, ap, subst, ◌∙◌, arith, add-one}
use Rattle.fbl_runs.proofs.Common.{cases_eq, cases_lt, slice_get_within}
use Rattle.fbl_runs.proofs.Common.{Mark, ControlMessage, Entry, Restart, Told, mark_in, restart_in, send_of}
use Rattle.fbl_runs.proofs.Common.{Begins, Carries, IsAt, IsEarlier, Position, StoodBefore, Tells, at, entry_member, log_of}
use Rattle.fbl_runs.specs.declared.entry.Restart as restart
use Rattle.fbl_runs.specs.Clocks.{StandsAt, seen}
use Rattle.fbl_runs.specs.Links.{AreChanged, AreOfOneLife, IsLastPlace, IsMessageOf, IsPlaceOf, IsPlaceOfEvent, undone_at}
use Rattle.fbl_runs.specs.Lives.{IsUndoneBy, StandsBehind, life_in, standing}
use Rattle.fbl_runs.specs.Rules.{AreLawful}
use Rattle.fbl_runs.proofs.LifeLaws.{IsIn, StandsBehind-earlier, StandsBehind-itself, StandsBehind-later, contains_from_in, in_from_contains, kept_together, none_within_life, standing_rises, standing_stands, undone_once}
use Rattle.std.proofs.Common.{set, length-set, ◌-◌}
use Rattle.std.specs.Option.{option_or}
use Rattle.fbl_runs.proofs.Common.{At-front, At-push, At-seam, take-more}
use Rattle.fbl_runs.specs.declared.links.Link.{Link}
use Rattle.fbl_runs.specs.declared.lives.StandingEvent.{StandingEvent}
use Rattle.fbl_runs.proofs.LivedLaws.{set_elsewhere, set_here}
use Rattle.fbl_runs.specs.declared.lives.Lives.{Lives}
use Rattle.fbl_runs.specs.KnownLives.{HasLived, IsLifeAt}
use Rattle.fbl_runs.proofs.KnownLaws.{life_still}
use Rattle.fbl_runs.proofs.Listing.{placed, seen-other, seen-own}
use Rattle.fbl_runs.proofs.LeadsLaws.{begins_one, carries_one, lives_rise, same_position, tells_one, there_at}

module _ (entries : List Entry) (j : Position) (e : Entry) (here : IsAt (log_of entries) j e) where
  -- ---- the entry before

  pub first_entry : j.number ≡ 0 → IsLastPlace entries (λ i. IsEarlier (log_of entries) i j) (IsEarlier (log_of entries)) None
  first_entry first i earlier = (let less = earlier.5 in omega (arith, less, first))

  earlier_than : (k : ℕ) (i : Position) → j.number ≡ suc k → IsEarlier (log_of entries) i j → (i ≡ at j.member k) ⊎ (i.number < k)
  earlier_than k i number earlier = elim (cases_eq i.number k) [
    | inl same ↦ inl (same_position i (at j.member k) earlier.4 same)
    | inr other ↦ inr (let less = earlier.5 in omega (arith, less, number, other))
  ]

  pub previous_entry : (place k : ℕ) → j.number ≡ suc k → StandsAt entries place (at j.member k) → IsLastPlace entries (λ i. IsEarlier (log_of entries) i j) (IsEarlier (log_of entries)) (Some place)
  previous_entry place k number stands =
      let before = there_at entries place (at j.member k) stands in (
        at j.member k,
        stands,
        (before.0, e, before.1, here, refl, omega (arith, number)),
        λ i earlier. elim (earlier_than k i number earlier) [
          | inl same ↦ inl same
          | inr less ↦ inr (earlier.0, before.0, earlier.2, before.1, earlier.4, less)
        ],
      )

  -- ---- the last one that stood

  pub first_stood : j.number ≡ 0 → IsLastPlace entries (λ i. StoodBefore (log_of entries) i j) (StoodBefore (log_of entries)) None
  first_stood first i stood = first_entry first i stood.0

  pub previous_stood : (place k : ℕ) → restart_in e ≡ None → j.number ≡ suc k → StandsAt entries place (at j.member k) → IsLastPlace entries (λ i. StoodBefore (log_of entries) i j) (StoodBefore (log_of entries)) (Some place)
  previous_stood place k none number stands =
      let log = log_of entries j.member in
      let before = there_at entries place (at j.member k) stands in
      let free : (m : ℕ) (r : restart.Restart) → k + 1 ≤ m → m < j.number + 1 → slice_get log m ≢ Some (Restart r) = λ m r after below is. (
      let same : m ≡ j.number = omega (arith, after, below, number) in
      let there : slice_get log j.number ≡ Some (Restart r) = subst (λ (m : ℕ). slice_get log m ≡ Some (Restart r)) same is in
      let entry : e ≡ Restart r = (let some : Some e ≡ Some (Restart r) = sym here ∙ there in cc) in
      let wrong : None ≡ Some r = sym none ∙ ap restart_in entry in cc) in
      let stood : StandsBehind log k (j.number + 1) = StandsBehind-later log k (k + 1) (j.number + 1) (StandsBehind-itself log k) (omega (arith, number)) free in (
        at j.member k,
        stands,
        ((before.0, e, before.1, here, refl, omega (arith, number)), stood),
        λ i other. elim (earlier_than k i number other.0) [
          | inl same ↦ inl same
          | inr less ↦ inr (
            (other.0.0, before.0, other.0.2, before.1, other.0.4, less),
            (
                let behind : StandsBehind (log_of entries i.member) i.number (j.number + 1) = other.1 in
                StandsBehind-earlier (log_of entries i.member) i.number (j.number + 1) (k + 1) behind (omega (arith, less)) (omega (arith, number))),
          )
        ],
      )

  -- behind a restart
  module _ (r : restart.Restart) (is : e ≡ Restart r) where
    at_restart : slice_get (log_of entries j.member) j.number ≡ Some (Restart r)
    at_restart = here ∙ ap Some is

    kept_there : (i : Position) → StoodBefore (log_of entries) i j → IsIn (standing (take (j.number + 1) (log_of entries j.member))) i.number
    kept_there i stood =
        let member = stood.0.4 in
        let behind : StandsBehind (log_of entries j.member) i.number (j.number + 1) = subst (λ (q : ℕ). StandsBehind (log_of entries q) i.number (j.number + 1)) member stood.1 in
        in_from_contains (standing (take (j.number + 1) (log_of entries j.member))) i.number (behind.1 j.number r stood.0.5 (omega arith) at_restart)

    pub none_kept : standing (take (j.number + 1) (log_of entries j.member)) ≡ [] → IsLastPlace entries (λ i. StoodBefore (log_of entries) i j) (StoodBefore (log_of entries)) None
    none_kept nothing i stood = (let found = kept_there i stood in let wrong : None ≡ Some i.number = sym (ap (λ s. slice_get s found.0) nothing) ∙ found.1 in cc)

    pub last_kept : (place k last : ℕ) → slice_get (standing (take (j.number + 1) (log_of entries j.member))) last ≡ Some k → length (standing (take (j.number + 1) (log_of entries j.member))) ≡ suc last
        → StandsAt entries place (at j.member k) → IsLastPlace entries (λ i. StoodBefore (log_of entries) i j) (StoodBefore (log_of entries)) (Some place)
    last_kept place k last at_last size stands =
        let log = log_of entries j.member in
        let s = standing (take (j.number + 1) log) in
        let before = there_at entries place (at j.member k) stands in
        let behind = standing_stands log (j.number + 1) k (contains_from_in s k (last, at_last)) in
        let apart : k ≢ j.number = λ same. (
        let event = behind.0 in
        let there : slice_get log j.number ≡ Some event.0 = subst (λ (m : ℕ). slice_get log m ≡ Some event.0) same event.2 in
        let entry : event.0 ≡ Restart r = (let some : Some event.0 ≡ Some (Restart r) = sym there ∙ at_restart in cc) in
        let wrong : None ≡ Some event.1 = sym (ap mark_in entry) ∙ event.3 in cc) in
        let less : k < j.number = (let b = behind.1.0 in omega (arith, b, apart)) in (
          at j.member k,
          stands,
          ((before.0, e, before.1, here, refl, less), behind.1),
          λ i other. (
              let found = kept_there i other in
              let within = slice_get_within s found.0 i.number found.1 in
              elim (cases_eq found.0 last) [
                | inl same ↦ inl (same_position i (at j.member k) other.0.4 (
                    let there : slice_get s last ≡ Some i.number = subst (λ (n : ℕ). slice_get s n ≡ Some i.number) same found.1 in
                    let some : Some i.number ≡ Some k = sym there ∙ at_last in cc))
                | inr ne ↦
                    let earlier : i.number < k = standing_rises log (j.number + 1) found.0 last i.number k (omega (arith, within, size, ne)) found.1 at_last in
                    let together = kept_together log i.number k j.number earlier (contains_from_in s i.number found) (contains_from_in s k (last, at_last)) in
                    inr ((other.0.0, before.0, other.0.2, before.1, other.0.4, earlier), subst (λ (q : ℕ). StandsBehind (log_of entries q) i.number (k + 1)) (sym other.0.4) together)
              ]),
        )

-- ---- messages, and what begins a life

module _ (n : ℕ) (entries : List Entry) (lawful : AreLawful n entries) (j : Position) (e : Entry) (here : IsAt (log_of entries) j e) where
  is_here : (x : Entry) → IsAt (log_of entries) j x → e ≡ x
  is_here x is = (let some : Some e ≡ Some x = sym here ∙ is in cc)

  pub carried_place : (place : ℕ) (i : Position) → StandsAt entries place i → Carries (log_of entries) i j → IsPlaceOf entries (IsMessageOf (log_of entries) j) (Some place)
  carried_place place i stands carries = (
    i,
    stands,
    inl carries,
    λ k other. inl (elim other [
      | inl also ↦ carries_one n entries lawful k i j also carries
      | inr tells ↦ absurd (
          let told : e ≡ Told tells.0 = is_here (Told tells.0) tells.2 in
          let receipt : e ≡ carries.2 = is_here carries.2 carries.4 in
          let wrong : None ≡ Some carries.1 = sym (ap mark_in told) ∙ ap mark_in receipt ∙ carries.5 in cc)
    ]),
  )

  pub told_place : (place : ℕ) (i : Position) → StandsAt entries place i → Tells (log_of entries) i j → IsPlaceOf entries (IsMessageOf (log_of entries) j) (Some place)
  told_place place i stands tells = (
    i,
    stands,
    inr tells,
    λ k other. inl (elim other [
      | inl carries ↦ absurd (
          let told : e ≡ Told tells.0 = is_here (Told tells.0) tells.2 in
          let receipt : e ≡ carries.2 = is_here carries.2 carries.4 in
          let wrong : None ≡ Some carries.1 = sym (ap mark_in told) ∙ ap mark_in receipt ∙ carries.5 in cc)
      | inr also ↦ tells_one n entries lawful k i j also tells
    ]),
  )

  pub no_message : ((m : ControlMessage) → e ≢ Told m) → ((r s : Mark) → mark_in e ≡ Some r → send_of r ≡ Some s → ⊥) → IsPlaceOf entries (IsMessageOf (log_of entries) j) None
  no_message untold untaken i message = elim message [
    | inl carries ↦ untaken carries.1 carries.0 (ap mark_in (is_here carries.2 carries.4) ∙ carries.5) carries.6
    | inr tells ↦ untold tells.0 (is_here (Told tells.0) tells.2)
  ]

  pub begun_place : (place : ℕ) (i : Position) → StandsAt entries place i → Begins (log_of entries) i j → IsPlaceOf entries (λ i. Begins (log_of entries) i j) (Some place)
  begun_place place i stands begins = (i, stands, begins, λ k other. inl (begins_one n entries lawful k i j other begins))

  pub not_begun : ((i : Position) → ¬ (Begins (log_of entries) i j)) → IsPlaceOf entries (λ i. Begins (log_of entries) i j) None
  not_begun none = none

-- ---- what undoes an entry

-- of the entries seen so far, none undoes the entry, or this one does
abbrev pub IsUndoneSoFar : List Entry → ℕ → Position → Option ℕ → Type 0
IsUndoneSoFar entries p j None = StandsBehind (log_of entries j.member) j.number (seen entries p j.member)
IsUndoneSoFar entries p j (Some place) =
    (i : Position) × StandsAt entries place i × (i.member ≡ j.member) × IsUndoneBy (log_of entries j.member) j.number i.number

-- what is known so far is known of all at the end
pub undone_all : (entries : List Entry) (p : ℕ) (j : Position) (o : Option ℕ) → seen entries p j.member ≡ length (log_of entries j.member) → IsUndoneSoFar entries p j o
    → IsPlaceOf entries (λ i. (i.member ≡ j.member) × IsUndoneBy (log_of entries j.member) j.number i.number) o
undone_all entries p j None all stands = λ i undone. (
    let log = log_of entries j.member in
    let r = undone.1.restart in
    let within : i.number < seen entries p j.member = (let w = slice_get_within log i.number (Restart r.0) r.1 in omega (arith, w, all)) in
    undone.1.undone (stands.1 i.number r.0 undone.1.stood.0 within r.1))
undone_all entries p j (Some place) all is = (is.0, is.1, (is.2, is.3), λ k other. inl (same_position k is.0 (other.0 ∙ sym is.2) (undone_once (log_of entries j.member) j.number k.number is.0.number other.1 is.3)))

-- of an entry that comes itself
pub undone_new : (entries : List Entry) (p : ℕ) (j : Position) → seen entries p j.member ≡ j.number + 1 → IsUndoneSoFar entries p j None
undone_new entries p j now = subst (StandsBehind (log_of entries j.member) j.number) (sym now) (StandsBehind-itself (log_of entries j.member) j.number)

module _ (entries : List Entry) (p : ℕ) (e : Entry) (here : slice_get entries p ≡ Some e) (j : Position) where
  -- one entry more of another member
  pub undone_other : (o : Option ℕ) → entry_member e ≢ j.member → IsUndoneSoFar entries p j o → IsUndoneSoFar entries (suc p) j o
  undone_other None other stands = subst (StandsBehind (log_of entries j.member) j.number) (sym (seen-other entries p e j.member here other)) stands
  undone_other (Some place) other is = is

  module _ (own : entry_member e ≡ j.member) where
    more : seen entries (suc p) j.member ≡ seen entries p j.member + 1
    more = seen-own entries p e j.member here own

    at_p : slice_get (log_of entries j.member) (seen entries p j.member) ≡ Some e
    at_p = placed entries p e j.member here own

    -- one of the same member that is no restart
    pub undone_next : (o : Option ℕ) → restart_in e ≡ None → IsUndoneSoFar entries p j o → IsUndoneSoFar entries (suc p) j o
    undone_next None none stands = subst (StandsBehind (log_of entries j.member) j.number) (sym more) (StandsBehind-later (log_of entries j.member) j.number (seen entries p j.member) (seen entries p j.member + 1) stands (omega arith) (λ m r after below is. (
        let same : m ≡ seen entries p j.member = omega (arith, after, below) in
        let there : slice_get (log_of entries j.member) (seen entries p j.member) ≡ Some (Restart r) = subst (λ (m : ℕ). slice_get (log_of entries j.member) m ≡ Some (Restart r)) same is in
        let entry : e ≡ Restart r = (let some : Some e ≡ Some (Restart r) = sym at_p ∙ there in cc) in
        let wrong : None ≡ Some r = sym none ∙ ap restart_in entry in cc)))
    undone_next (Some place) none is = is

    -- and one that does not
    pub undone_now : (r : restart.Restart) → e ≡ Restart r → IsUndoneSoFar entries p j None → ¬ (IsIn (standing (take (seen entries p j.member + 1) (log_of entries j.member))) j.number) → IsUndoneSoFar entries (suc p) j (Some p)
    undone_now r is stands lost = (
      at j.member (seen entries p j.member),
      (e, here, own, refl),
      refl,
      record {
        stood = stands;
        restart = (r, at_p ∙ ap Some is);
        undone = λ kept. lost (in_from_contains (standing (take (seen entries p j.member + 1) (log_of entries j.member))) j.number kept);
      },
    )

-- ---- lives

module _ (entries : List Entry) (known : Lives) (has : HasLived entries known) where
  -- two entries have the same number of a life if and only if no restart stands from the one to the other
  pub one_life : (i j : Position) (a b : ℕ) → IsLifeAt known.lives.items a i.member (life_in (take (i.number + 1) (log_of entries i.member)))
      → IsLifeAt known.lives.items b j.member (life_in (take (j.number + 1) (log_of entries j.member))) → (a ≡ b) ↔ AreOfOneLife (log_of entries) i j
  one_life i j a b at_a at_b = (same_life, same_number) where
    same_life : a ≡ b → AreOfOneLife (log_of entries) i j
    same_life same =
        let l : at_a.0 ≡ at_b.0 = (let some : Some at_a.0 ≡ Some at_b.0 = sym at_a.1 ∙ ap (slice_get known.lives.items) same ∙ at_b.1 in cc) in
        let member : i.member ≡ j.member = sym at_a.2 ∙ ap (λ l. l.member) l ∙ at_b.2 in
        let log = log_of entries i.member in
        let life : life_in (take (i.number + 1) log) ≡ life_in (take (j.number + 1) log) = sym at_a.3 ∙ ap (λ l. l.life) l ∙ at_b.3 ∙ ap (λ q. life_in (take (j.number + 1) (log_of entries q))) (sym member) in
        let rise = lives_rise has.lawful.0 entries has.lawful.1 i.member in (
          member,
          λ k r is. (
            λ within. elim (cases_lt j.number k) [
              | inl past ↦ absurd (none_within_life log rise (j.number + 1) (i.number + 1) (sym life) k r (omega (arith, past)) (omega (arith, within)) is)
              | inr inside ↦ inside
            ],
            λ within. elim (cases_lt i.number k) [
              | inl past ↦ absurd (none_within_life log rise (i.number + 1) (j.number + 1) life k r (omega (arith, past)) (omega (arith, within)) is)
              | inr inside ↦ inside
            ],
          ),
        )

    same_number : AreOfOneLife (log_of entries) i j → a ≡ b
    same_number one =
        let log = log_of entries i.member in
        let life : life_in (take (i.number + 1) log) ≡ life_in (take (j.number + 1) log) = (elim (cases_lt i.number j.number) [
          | inl before ↦
              let size : (i.number + 1) + (j.number - i.number) ≡ j.number + 1 = omega (arith, before) in
              life_still log (i.number + 1) (j.number - i.number) (λ k r after below is. (let within = (one.1 k r is).1 (omega (arith, below, size)) in omega (arith, within, after))) ∙ ap (λ n. life_in (take n log)) size
          | inr after ↦
              let size : (j.number + 1) + (i.number - j.number) ≡ i.number + 1 = omega (arith, after) in
              sym (life_still log (j.number + 1) (i.number - j.number) (λ k r past below is. (let within = (one.1 k r is).0 (omega (arith, below, size)) in omega (arith, within, past))) ∙ ap (λ n. life_in (take n log)) size)
        ]) in
        let at_b' : IsLifeAt known.lives.items b i.member (life_in (take (j.number + 1) log)) = subst (λ (q : ℕ). IsLifeAt known.lives.items b q (life_in (take (j.number + 1) (log_of entries q)))) (sym one.0) at_b in
        has.one a b i.member (life_in (take (j.number + 1) log)) (subst (IsLifeAt known.lives.items a i.member) life at_a) at_b'

-- ---- links that are changed one after another

pub nothing_changed : (P : ℕ → Type 0) (change : Link → Link) (links : List Link) → ((p : ℕ) → ¬ (P p)) → AreChanged P change links links
nothing_changed P change links none = record { count = refl; each = λ p a is. (a, is, inr (none p, refl)) }

-- the one at q, too
pub changed_more : (P Q : ℕ → Type 0) (change : Link → Link) (old new more : List Link) (q : ℕ) → ((a : Link) → change (change a) ≡ change a) → ((p : ℕ) → Q p ↔ P p ⊎ (p ≡ q))
    → ((b : Link) → slice_get new q ≡ Some b → more ≡ set new q (change b)) → (slice_get new q ≡ None → more ≡ new) → AreChanged P change old new → AreChanged Q change old more
changed_more P Q change old new more q again is some none changed = by_entry (slice_get new q) refl where
  others : (p : ℕ) (a b : Link) → p ≢ q → (P p × (b ≡ change a)) ⊎ (¬ (P p) × (b ≡ a)) → (Q p × (b ≡ change a)) ⊎ (¬ (Q p) × (b ≡ a))
  others p a b apart (inl here) = inl ((is p).1 (inl here.0), here.1)
  others p a b apart (inr other) = inr (λ h. elim ((is p).0 h) [ inl old ↦ other.0 old | inr same ↦ apart same ], other.1)

  this : (a b : Link) → (P q × (b ≡ change a)) ⊎ (¬ (P q) × (b ≡ a)) → change b ≡ change a
  this a b (inl here) = ap change here.1 ∙ again a
  this a b (inr other) = ap change other.1

  by_entry : (o : Option Link) → slice_get new q ≡ o → AreChanged Q change old more
  by_entry None past = subst (λ (more : List Link). AreChanged Q change old more) (sym (none past)) (record {
    count = changed.count;
    each = λ p a at_p. (
        let r = changed.each p a at_p in
        (r.0, r.1, others p a r.0 (λ same. (let wrong : None ≡ Some r.0 = sym past ∙ ap (slice_get new) (sym same) ∙ r.1 in cc)) r.2));
  })
  by_entry (Some b) here = subst (λ (more : List Link). AreChanged Q change old more) (sym (some b here)) (record {
    count = length-set new q (change b) ∙ changed.count;
    each = λ p a at_p. (
        let r = changed.each p a at_p in
        elim (cases_eq p q) [
          | inl same ↦
              let equal : r.0 ≡ b = (let s : Some r.0 ≡ Some b = sym r.1 ∙ ap (slice_get new) same ∙ here in cc) in
              let now : slice_get (set new q (change b)) p ≡ Some (change b) = subst (λ (n : ℕ). slice_get (set new q (change b)) n ≡ Some (change b)) (sym same) (set_here new q b (change b) here) in
              let was : (P q × (b ≡ change a)) ⊎ (¬ (P q) × (b ≡ a)) = subst (λ (n : ℕ). (P n × (b ≡ change a)) ⊎ (¬ (P n) × (b ≡ a))) same (subst (λ (b : Link). (P p × (b ≡ change a)) ⊎ (¬ (P p) × (b ≡ a))) equal r.2) in
              (change b, now, inl ((is p).1 (inr same), this a b was))
          | inr apart ↦ (r.0, set_elsewhere new q p r.0 (change b) apart r.1, others p a r.0 apart r.2)
        ]);
  })

-- the same places by other words
pub changed_same : (P Q : ℕ → Type 0) (change : Link → Link) (old new : List Link) → ((p : ℕ) → Q p ↔ P p) → AreChanged P change old new → AreChanged Q change old new
changed_same P Q change old new is changed = record {
  count = changed.count;
  each = λ p a at_p. (let r = changed.each p a at_p in (r.0, r.1, elim r.2 [ inl here ↦ inl ((is p).1 here.0, here.1) | inr other ↦ inr (λ h. other.0 ((is p).0 h), other.1) ]));
}

pub past_none : {X : Type 0} (xs : List X) (q : ℕ) → length xs ≤ q → slice_get xs q ≡ None
past_none [] q past = refl
past_none (x ∷ xs) zero past = absurd (omega (arith, past))
past_none (x ∷ xs) (suc q) past = past_none xs q (omega (arith, past))

pub undone_again : (place : ℕ) (a : Link) → undone_at place (undone_at place a) ≡ undone_at place a
undone_again place a = ap (λ (o : Option ℕ). record a { undone = o }) (by_undone a.undone) where
  by_undone : (o : Option ℕ) → option_or (option_or o (Some place)) (Some place) ≡ option_or o (Some place)
  by_undone None = refl
  by_undone (Some x) = refl

-- what is among one element more
pub in_take_more : (xs : List ℕ) (n q p : ℕ) → slice_get xs n ≡ Some q → IsIn (take (n + 1) xs) p ↔ IsIn (take n xs) p ⊎ (p ≡ q)
in_take_more xs n q p here =
    let more : take (n + 1) xs ≡ take n xs ++ q ∷ [] = (rw add-one (take-more xs n q here)) in (
      λ is. elim (At-push (take n xs) q is.0 p (sym (ap (λ s. slice_get s is.0) more) ∙ is.1)) [ inl old ↦ inl (is.0, old) | inr new ↦ inr (sym new.1) ],
      elim [
        | inl old ↦ (old.0, ap (λ s. slice_get s old.0) more ∙ At-front (take n xs) (q ∷ []) old.0 p old.1)
        | inr same ↦ (length (take n xs), ap (λ s. slice_get s (length (take n xs))) more ∙ At-seam (take n xs) q [] ∙ ap Some (sym same))
      ],
    )

pub events_take_more : (places : List ℕ) (events : List StandingEvent) (n q p : ℕ) (ev : StandingEvent) → slice_get events n ≡ Some ev → slice_get places ev.number ≡ Some q
    → IsPlaceOfEvent places (take (n + 1) events) p ↔ IsPlaceOfEvent places (take n events) p ⊎ (p ≡ q)
events_take_more places events n q p ev here at_q =
    let more : take (n + 1) events ≡ take n events ++ ev ∷ [] = (rw add-one (take-more events n ev here)) in (
      λ is. elim (At-push (take n events) ev is.0 is.1 (sym (ap (λ s. slice_get s is.0) more) ∙ is.2)) [
        | inl old ↦ inl (is.0, is.1, old, is.3)
        | inr new ↦ inr (let some : Some p ≡ Some q = sym is.3 ∙ ap (λ (e : StandingEvent). slice_get places e.number) (sym new.1) ∙ at_q in cc)
      ],
      elim [
        | inl old ↦ (old.0, old.1, ap (λ s. slice_get s old.0) more ∙ At-front (take n events) (ev ∷ []) old.0 old.1 old.2, old.3)
        | inr same ↦ (length (take n events), ev, ap (λ s. slice_get s (length (take n events))) more ∙ At-seam (take n events) ev [], at_q ∙ ap Some (sym same))
      ],
    )

pub events_take_none : (places : List ℕ) (events : List StandingEvent) (n p : ℕ) (ev : StandingEvent) → slice_get events n ≡ Some ev → slice_get places ev.number ≡ None
    → IsPlaceOfEvent places (take (n + 1) events) p ↔ IsPlaceOfEvent places (take n events) p
events_take_none places events n p ev here at_none =
    let more : take (n + 1) events ≡ take n events ++ ev ∷ [] = (rw add-one (take-more events n ev here)) in (
      λ is. elim (At-push (take n events) ev is.0 is.1 (sym (ap (λ s. slice_get s is.0) more) ∙ is.2)) [
        | inl old ↦ (is.0, is.1, old, is.3)
        | inr new ↦ absurd (let wrong : Some p ≡ None = sym is.3 ∙ ap (λ (e : StandingEvent). slice_get places e.number) (sym new.1) ∙ at_none in cc)
      ],
      λ old. (old.0, old.1, ap (λ s. slice_get s old.0) more ∙ At-front (take n events) (ev ∷ []) old.0 old.1 old.2, old.3),
    )
