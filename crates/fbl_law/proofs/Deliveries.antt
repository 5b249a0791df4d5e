-- Runs by deliveries alone: there is a start, and there is the delivery of each message at the front of its channel.
use Rattle.fbl_law.proofs.Common.{◌≡◌, ◌≢◌, ℕ, suc, ◌+◌, ◌<◌, ◌≤◌, ◌⊎◌, inl, inr, List, [], ◌∷◌, ◌++◌, length, map, Some, slice_get, slice_set, refl, ◌∙◌, arith}
use Rattle.fbl_law.proofs.Common.{filter_map, cases_lt, nat_tests, All, All-head, All-tail, append-nil, filter-append, filter_map-append, get_or, get_or_past}
use Rattle.fbl_law.proofs.Common.{Start, Event, mark_of, Next, sends_of, StartAllowed}
use Rattle.fbl_law.proofs.Common.{Message, blank, fresh, messages_from, between, taken_off, GroupRecord, HasChannels, channel, member, IsDelivery, IsGroupStart, Settings, IsConfig}
use Rattle.fbl_law.proofs.Common.{start_events, message_of_send, delivery_events, receiver, made, SendsWell, IsSound, Entry}
use Rattle.fbl_law.proofs.Common.{Bool, step_of, piggybacked}
use Rattle.std.specs.List.{range_with_len}
use Rattle.std.proofs.lemmas.List.FromFn.{get_or-map-range_with_len, length-map-range_with_len}
use Rattle.fbl_law.specs.Groups.{channel_in}
use Rattle.fbl_law.specs.CrashFree.{CrashFree, begins, goes_on}
use Rattle.fbl_law.proofs.GroupStart.{group_start_is_sound}
use Rattle.fbl_law.proofs.GroupDelivery.{group_delivery_keeps}
use Rattle.std.specs.FinSet as set
use Rattle.fbl_trace.specs.declared.trace.Event.TheVariants as event

-- ---- channels from a function, and what is on them

module _ {N : Type 0} (n : ℕ) where
  -- the channels between n members that a function gives
  abbrev pub rows_of : (ℕ → ℕ → List (Message N)) → List (List (List (Message N)))
  rows_of f = map (λ q. map (f q) (range_with_len 0 n)) (range_with_len 0 n)

  module _ (f : ℕ → ℕ → List (Message N)) where
    row : (q : ℕ) → q < n → get_or (rows_of f) q [] ≡ map (f q) (range_with_len 0 n)
    row q below = get_or-map-range_with_len (λ q. map (f q) (range_with_len 0 n)) 0 n q q [] below (omega arith)

    pub rows-shape : HasChannels n (rows_of f)
    rows-shape = record {
      senders = length-map-range_with_len (λ q. map (f q) (range_with_len 0 n)) 0 n;
      receivers = λ q below. rw (row q below) (length-map-range_with_len (f q) 0 n);
    }

    pub rows-at : ((q p : ℕ) → (n ≤ q) ⊎ (n ≤ p) → f q p ≡ []) → (q p : ℕ) → channel_in (rows_of f) q p ≡ f q p
    rows-at none q p = elim (cases_lt q n) [
      | inl below ↦ elim (cases_lt p n) [
        | inl below_p ↦ rw (row q below) (get_or-map-range_with_len (f q) 0 n p p [] below_p (omega arith))
        | inr past ↦ rw (row q below, none q p (inr past)) (get_or_past (map (f q) (range_with_len 0 n)) p [] (omega (arith, length-map-range_with_len (f q) 0 n, past)))
      ]
      | inr past ↦ rw (get_or_past (rows_of f) q [] (omega (arith, rows-shape.senders, past)), none q p (inl past)) refl
    ]

module _ {N : Type 0} where
  -- there is no channel but between members
  pub channel-outside : {n : ℕ} {cs : List (List (List (Message N)))} → HasChannels n cs → (q p : ℕ) → (n ≤ q) ⊎ (n ≤ p) → channel_in cs q p ≡ []
  channel-outside {n} {cs} shape q p out = grind (arith, shape.senders, shape.receivers q, get_or_past cs q [], get_or_past (get_or cs q []) p [])

  -- what a member of the group sends to others is between members
  made-outside : (n q p me before : ℕ) (carried : List Entry) (sends : List (ℕ × N)) → (n ≤ q) ⊎ (n ≤ p) → me < n → All (λ (s : ℕ × N). (s.0 < n) × (s.0 ≢ me)) sends
      → between q p (messages_from me before carried sends) ≡ []
  made-outside n q p me before carried [] out below within = refl
  made-outside n q p me before carried (s ∷ sends) out below within =
      let here = All-head (λ (s : ℕ × N). (s.0 < n) × (s.0 ≢ me)) s sends within in
      let rest = made-outside n q p me (before + 1) carried sends out below (All-tail (λ (s : ℕ × N). (s.0 < n) × (s.0 ≢ me)) s sends within) in
      grind (arith, nat_tests, here, rest, out)

  -- and so are the starts
  starts-outside : (n q p : ℕ) (allowed : N → Bool) (done : List (Event N)) (ss : List (Start N)) → (n ≤ q) ⊎ (n ≤ p) → ((i : ℕ) (s : Start N) → slice_get ss i ≡ Some s → StartAllowed allowed n s)
      → between q p (filter_map message_of_send done) ≡ [] → between q p (filter_map message_of_send (start_events done ss)) ≡ []
  starts-outside n q p allowed done [] out within none = none
  starts-outside n q p allowed done (s ∷ ss) out within none =
      let here = within 0 s refl in
      starts-outside n q p allowed (done ++ event.Send s.from (sends_of (map mark_of done) s.from + 1) s.to s.note ∷ []) ss out (λ i x at. within (suc i) x at)
      (rw (filter_map-append message_of_send, filter-append, none) grind (arith, nat_tests, here, out))

-- ---- a start and a delivery

-- the group with which a run begins
abbrev pub started : {S N : Type 0} → Next S N → S → Settings N → GroupRecord S N
started next outside c = record {
  outside = outside;
  config = c;
  members = map (λ m. fresh (next.initial m c.members) m c.starts) (range_with_len 0 c.members);
  checkpoints = map (λ m. fresh (next.initial m c.members) m c.starts) (range_with_len 0 c.members);
  channels = rows_of c.members (λ q p. between q p (filter_map message_of_send (start_events [] c.starts)));
  trace = start_events [] c.starts;
  down = set.empty;
  receipts_ever = 0;
  undone_ever = 0;
}

pub started_is : {S N : Type 0} → (next : Next S N) (outside : S) (c : Settings N) → IsConfig next.allowed c → IsGroupStart next c (started next outside c)
started_is {S} {N} next outside c is = record {
  parameters = refl;
  trace = refl;
  shape = rows-shape c.members _;
  channels = rows-at c.members _ (λ q p out. starts-outside c.members q p next.allowed [] c.starts out is.starts refl);
  size = length-map-range_with_len (λ m. fresh (next.initial m c.members) m c.starts) 0 c.members;
  members = λ m below. get_or-map-range_with_len (λ m. fresh (next.initial m c.members) m c.starts) 0 c.members m m (blank outside) below (omega arith);
  checkpoints = length-map-range_with_len (λ m. fresh (next.initial m c.members) m c.starts) 0 c.members;
  saved = λ m below. get_or-map-range_with_len (λ m. fresh (next.initial m c.members) m c.starts) 0 c.members m m (blank outside) below (omega arith);
  nobody_down = refl;
  receipts_ever = refl;
  undone_ever = refl;
}

module _ {S N : Type 0} (next : Next S N) (old : GroupRecord S N) (v : Message N) where
  -- what a channel has after the delivery
  abbrev pub cell : ℕ → ℕ → List (Message N)
  cell q p = taken_off v q p (channel old q p) ++ between q p (made next old v)

  -- the group after the delivery
  abbrev pub delivered : GroupRecord S N
  delivered = record old {
    members = slice_set old.members v.to (receiver next old v);
    channels = rows_of old.config.members cell;
    trace = old.trace ++ delivery_events next old v;
    receipts_ever = old.receipts_ever + 1;
  }

  pub delivered_is : SendsWell next → IsSound next old → old.down ≡ set.empty → slice_get (channel old v.from v.to) 0 ≡ Some v → v.from < old.config.members → v.to < old.config.members
      → length (old.trace ++ delivery_events next old v) ≤ old.config.limit → IsDelivery next old delivered v
  delivered_is well sound nobody front below_from below_to room = record {
    nobody_down = nobody;
    front = front;
    to_member = below_to;
    from_member = below_from;
    room = room;
    trace = refl;
    members = refl;
    shape = rows-shape old.config.members cell;
    channels = rows-at old.config.members cell (λ q p out.
        let none = channel-outside sound.shape q p out in
        let sent = made-outside old.config.members q p v.to (length (member old v.to).log) (piggybacked old.config.f (receiver next old v).table) (step_of next old v).sends.items out below_to (well v.to old.config.members (member old v.to).state v.note sound.config.members.0 below_to).0 in
        rw (sent, append-nil, none) grind arith);
    receipts_ever = refl;
    undone_ever = refl;
    config = refl;
    down = refl;
    checkpoints = refl;
    outside = refl;
  }

-- ---- runs by deliveries alone

module _ {S N : Type 0} (next : Next S N) (well : SendsWell next) {c : Settings N} (is : IsConfig next.allowed c) where
  pub free_sound : {g : GroupRecord S N} → CrashFree next c g → IsSound next g
  free_sound {g} (begins s) = group_start_is_sound next c g is s
  free_sound {g} (goes_on {old = old} {v = v} run s) = group_delivery_keeps next old g v well s (free_sound run)

  pub free_config : {g : GroupRecord S N} → CrashFree next c g → g.config ≡ c
  free_config (begins s) = s.parameters
  free_config (goes_on run s) = s.config ∙ free_config run

  pub free_nobody : {g : GroupRecord S N} → CrashFree next c g → g.down ≡ set.empty
  free_nobody (begins s) = s.nobody_down
  free_nobody (goes_on run s) = s.down ∙ s.nobody_down
