-- A delivery of a group is a delivery of the plain network with its states and notes. So a run of deliveries alone is a plain run, and
-- what looks as after such a run shares its survivors with a plain network.
use Rattle.fbl_law.proofs.Common.{◌≡◌, ℕ, zero, suc, ◌+◌, ◌<◌, ◌≤◌, ◌⊎◌, ◌==◌, ◌&&◌, Bool, true, false, if◌then◌else◌, inl, inr, List, [], ◌∷◌, ◌++◌, length, drop, map, Option, Some, None, slice_get, refl, sym, ap, ◌∙◌, subst}
use Rattle.fbl_law.proofs.Common.{arith, nat_tests, cases_eq, cases_lt, eqb-self, ne_eqb, option_map, slice_get-map, map-append, filter_map, between, nil_from_length}
use Rattle.fbl_law.proofs.Common.{Event, Start, Entry, Settings, IsConfig, Next, SendsWell, starts_of, Message, MemberRecord, messages_from, GroupRecord, channel, member, IsSound, messages_in_flight, sum_below}
use Rattle.fbl_law.proofs.Common.{IsGroupStart, IsDelivery, message_of_send, step_of, piggybacked, receiver}
use Rattle.std.specs.FinSet as set
use Rattle.fbl_trace.specs.declared.trace.Event.TheVariants.{Send, Receipt}
use Rattle.fbl_law.specs.CrashFree.{CrashFree, begins, goes_on, LooksLike, without_carried}
use Rattle.fbl_law.proofs.GroupStart.{starts_given, no_receipts}
use Rattle.fbl_law.proofs.GroupDelivery.{receiver_now, other_now, receipts_now}
use Rattle.fbl_law.proofs.Deliveries.{channel-outside, free_sound}
use Rattle.fbl_law.proofs.CrashFree.{crashes_are_masked}
use Rattle.fbl_law.proofs.Safe.{up_if_none}
use Rattle.fbl_plain.specs.Plain.{Network, sent_to, delivered, PlainRun, starts, delivers, plain_of, deliveries, IsQuiet, LooksPlain, EachLooksPlain, HoldsAtFirst, DeliveryKeeps, IsUpheld}

-- plain networks with the same states and the same in flight are one
same_network : {S N : Type 0} (a b : Network S N) → ((m : ℕ) → a.state m ≡ b.state m) → ((q m : ℕ) → a.flight q m ≡ b.flight q m) → a ≡ b
same_network a b states flights = λ i. record { state = λ m. states m i; flight = λ q m. flights q m i }

module _ {N : Type 0} where
  abbrev notes : List (Message N) → List N
  notes vs = map (λ (v : Message N). v.note) vs

  -- the note of a send from q to m
  abbrev given : ℕ → ℕ → Event N → Option N
  given q m (Send from ssn to note) = if from == q && to == m then Some note else None
  given q m (Receipt to rsn from ssn) = None

  notes_sent : (q m : ℕ) (t : List (Event N)) → notes (between q m (filter_map message_of_send t)) ≡ filter_map (given q m) t
  notes_sent q m [] = refl
  notes_sent q m (e ∷ t) = grind (arith, nat_tests, notes_sent q m t)

  notes_started : (q m : ℕ) (ss : List (Start N)) → filter_map (λ (s : Start N). if s.from == q && s.to == m then Some s.note else None) ss ≡ sent_to m (starts_of q ss)
  notes_started q m [] = refl
  notes_started q m (s ∷ ss) = grind (arith, nat_tests, notes_started q m ss)

  -- of a member's messages those from q to m have the notes sent to m, if the member is q
  notes_made : (q m me before : ℕ) (carried : List Entry) (sends : List (ℕ × N)) → notes (between q m (messages_from me before carried sends)) ≡ (if me == q then sent_to m sends else [])
  notes_made q m me before carried [] = grind (arith, nat_tests)
  notes_made q m me before carried (s ∷ sends) = grind (arith, nat_tests, notes_made q m me (before + 1) carried sends)

  -- what is left of a channel
  notes_left : (takes : Bool) (vs : List (Message N)) → (if takes then drop 1 (notes vs) else notes vs) ≡ notes (if takes then drop 1 vs else vs)
  notes_left true [] = refl
  notes_left true (v ∷ vs) = refl
  notes_left false vs = refl

module _ {S N : Type 0} (next : Next S N) (well : SendsWell next) where
  abbrev IsPlain : GroupRecord S N → Type 0
  IsPlain r = PlainRun next r.config (deliveries r) (plain_of r)

  begun_plain : (c : Settings N) (r : GroupRecord S N) → IsGroupStart next c r → IsPlain r
  begun_plain c r is =
      let none : deliveries r ≡ [] = rw (is.trace, no_receipts [] c.starts) refl in
      rw (is.parameters, none) (starts (record {
        states = λ m below. ap (λ (x : MemberRecord S N). x.state) (is.members m below);
        flights = λ q m.
            ap notes (is.channels q m) ∙ notes_sent q m r.trace ∙ ap (filter_map (given q m)) is.trace
            ∙ starts_given (given q m) (λ s. if s.from == q && s.to == m then Some s.note else None) (λ s k. refl) [] c.starts ∙ notes_started q m c.starts;
      }))

  module _ (old new : GroupRecord S N) (v : Message N) (is : IsDelivery next old new v) (sound : IsSound next old) where
    abbrev after : Network S N
    after = delivered next old.config.members (plain_of old) v.from v.to v.note

    state_now : (m : ℕ) → after.state m ≡ (plain_of new).state m
    state_now m = elim (cases_eq v.to m) [
      | inl same ↦ rw (← same, eqb-self v.to, receiver_now next old new v well is sound) refl
      | inr other ↦ rw (ne_eqb v.to m other, other_now next old new v well is sound m (λ own. other (sym own))) refl
    ]

    flight_now : (q m : ℕ) → after.flight q m ≡ (plain_of new).flight q m
    flight_now q m =
        let left = notes_left (v.from == q && v.to == m) (channel old q m) in
        let sent = notes_made q m v.to (length (member old v.to).log) (piggybacked old.config.f (receiver next old v).table) (step_of next old v).sends.items in
        rw (is.channels q m, map-append, left, sent) refl

    more_plain : IsPlain old → IsPlain new
    more_plain run =
        let same : after ≡ plain_of new = same_network after (plain_of new) state_now flight_now in
        let ends_now : deliveries new ≡ deliveries old ++ (v.from, v.to) ∷ [] = rw (receipts_now next old new v well is sound, map-append) refl in
        let first : slice_get ((plain_of old).flight v.from v.to) 0 ≡ Some v.note = slice_get-map (λ (v : Message N). v.note) (channel old v.from v.to) 0 ∙ ap (option_map (λ (v : Message N). v.note)) is.front in
        subst (PlainRun next new.config (deliveries new)) same
        (rw (is.config, ends_now) (delivers v.from v.to v.note run (record { sender = is.from_member; receiver = is.to_member; first = first })))

  -- a run by deliveries alone is a plain run
  crash_free_plain : {c : Settings N} → IsConfig next.allowed c → (r : GroupRecord S N) → CrashFree next c r → IsPlain r
  crash_free_plain {c} allowed r (begins is) = begun_plain c r is
  crash_free_plain allowed r (goes_on {old = old} {v = v} run is) = more_plain old r v is (free_sound next well allowed run) (crash_free_plain allowed old run)

-- who looks like another group shares the survivors with that group as a plain network
looks_plain : {S N : Type 0} (next : Next S N) (r other : GroupRecord S N) → LooksLike r other → PlainRun next other.config (deliveries other) (plain_of other) → LooksPlain next r
looks_plain {S} {N} next r other looks run = record {
  network = plain_of other;
  run = rw (looks.config, looks.trace) run;
  survivors = record {
    states = λ m up. ap (λ (x : MemberRecord S N). x.state) (sym (looks.members m up));
    flights = λ q m up_q up_m. same_notes (channel other q m) ∙ ap notes (sym (looks.channels q m up_q up_m)) ∙ sym (same_notes (channel r q m));
  };
} where
  same_notes : (vs : List (Message N)) → notes vs ≡ notes (map without_carried vs)
  same_notes [] = refl
  same_notes (v ∷ vs) = ap (λ (xs : List N). v.note ∷ xs) (same_notes vs)

pub each_looks_plain : {S N : Type 0} → EachLooksPlain S N
each_looks_plain {S} {N} next r well sound =
    let masked = crashes_are_masked S N next r well sound in
    looks_plain next r masked.other masked.looks (crash_free_plain next well sound.config masked.other masked.run)

-- parts of a sum that is 0 are 0
each_none : (n : ℕ) (a : ℕ → ℕ) → sum_below n a ≡ 0 → (x : ℕ) → x < n → a x ≡ 0
each_none zero a none x below = absurd (omega (arith, below))
each_none (suc n) a none x below = elim (cases_lt x n) [
  | inl less ↦ each_none n a (omega (arith, none)) x less
  | inr past ↦ (let last : x ≡ n = omega (arith, below, past) in ap a last ∙ omega (arith, none))
]

-- where no message is in flight each channel is empty
none_flies : {S N : Type 0} (next : Next S N) (r : GroupRecord S N) → IsSound next r → messages_in_flight r ≡ 0 → IsQuiet (plain_of r)
none_flies {S} {N} next r sound none q m = ap notes (nothing (cases_lt q r.config.members) (cases_lt m r.config.members)) where
  nothing : (q < r.config.members) ⊎ (r.config.members ≤ q) → (m < r.config.members) ⊎ (r.config.members ≤ m) → channel r q m ≡ []
  nothing (inl below_q) (inl below_m) = nil_from_length (channel r q m) (each_none r.config.members _ (each_none r.config.members _ none q below_q) m below_m)
  nothing (inr past) within = channel-outside sound.shape q m (inl past)
  nothing within (inr past) = channel-outside sound.shape q m (inr past)

-- what holds at first, and what a delivery keeps, holds after each plain run
run_holds : {S N : Type 0} (next : Next S N) (c : Settings N) (Law : Network S N → Type 0) {done : List (ℕ × ℕ)} {p : Network S N}
    → HoldsAtFirst next c Law → DeliveryKeeps next c.members Law → PlainRun next c done p → Law p
run_holds next c Law {p = p} first keeps (starts is) = first p is
run_holds next c Law first keeps (delivers {p = p} from to note run goes) = keeps p from to note goes (run_holds next c Law first keeps run)

pub upheld : {S N : Type 0} (next : Next S N) (r : GroupRecord S N) (Law : Network S N → Type 0) → SendsWell next → IsSound next r
    → HoldsAtFirst next r.config Law → DeliveryKeeps next r.config.members Law → IsUpheld r Law
upheld next r Law well sound first keeps =
    let looks = each_looks_plain next r well sound in
    let law = run_holds next r.config Law first keeps looks.run in
    record {
      network = looks.network;
      law = law;
      survivors = looks.survivors;
      whole = λ nobody.
          let up = up_if_none nobody in
          subst Law (same_network looks.network (plain_of r) (λ m. looks.survivors.states m (up m)) (λ q m. looks.survivors.flights q m (up q) (up m))) law;
      quiet = none_flies next r sound;
    }
