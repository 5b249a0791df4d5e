-- Channels as queues: what is left of them by a start and a delivery.
pub use Rattle.fbl_group.proofs.Common.{◌≡◌, ℕ, zero, suc, ◌+◌, ◌<◌, ◌≤◌, Bool, List, [], ◌∷◌, ◌++◌, length, map, drop, refl, sym, ap, ◌∙◌, arith, Some, slice_get, get_or, append_assoc, All, map-append, filter-append, Entry, Message, messages_from, between, is_on, taken_off, HasChannels, channel_in, room_in, each, with_sent, taken_and_sent, send_of_message, append-nil, step_events, first_message, with_at, Made, made-more, IsSound, group_delivery_keeps, reads, put-in, written-shape}
use Rattle.fbl_group.proofs.Common.{◌⊎◌, inl, inr, true, false, Option, None, channel, sum_below, nat_tests, len-empty, take_refusal, deliver_refusal, is_full, step_of, Next, GroupRecord, IsDeliverRefusal, if◌then◌else◌, cases_eq, some-at}
use Rattle.std.specs.FinSet as set
use Rattle.fbl_group.specs.declared.refusals.DeliverRefusal.{DeliverRefusal}
use Rattle.fbl_group.specs.declared.refusals.DeliverRefusal.TheVariants.{Full, Memory}
use Rattle.fbl_group.specs.declared.refusals.TakeRefusal.{TakeRefusal}
use Rattle.fbl_group.specs.Deliveries.{take_or_room}
use Rattle.fbl_group.specs.Laws.{SomeDeliveryIsOpen}

module _ {N : Type 0} where
  -- the first of a list that has one
  pub first-is : (note : N) (vs : List (Message N)) (v : Message N) → slice_get vs 0 ≡ Some v → first_message note vs ≡ v
  first-is note [] v first = cc
  first-is note (x ∷ vs) v first = cc

-- ---- lists that loops make

-- one more element, where the list is of what is seen of each
pub made-mapped : {X Y : Type 0} (f : X → Y) {d : Y} {Wanted : ℕ → Y → Type 0} {i : ℕ} (xs : List X) (x : X) → Made d Wanted i (map f xs) → Wanted i (f x)
    → Made d Wanted (i + 1) (map f (xs ++ x ∷ []))
made-mapped f {i = i} xs x made wanted = rw (map-append f xs (x ∷ [])) (made-more _ _ i (map f xs) (f x) made wanted)

-- the elements below the place i are those wanted, and the others are as they were
pub record Turned {X : Type 0} (d : X) (Wanted : ℕ → X → Type 0) (i : ℕ) (old xs : List X) : Type 0 where
  pub size : length xs ≡ length old
  pub done : (m : ℕ) → m < i → Wanted m (get_or xs m d)
  pub rest : (m : ℕ) → i ≤ m → get_or xs m d ≡ get_or old m d

-- ---- deliveries

-- the rest of what all fit
all-rest : {X : Type 0} (P : X → Type 0) (x : X) (xs : List X) → All P (x ∷ xs) → All P xs
all-rest P x xs all k d below = all (suc k) d (omega (arith, below))

module _ {N : Type 0} where
  -- the messages of a step: each is of the member, and goes where its send says
  pub messages-all : (Fits : ℕ → Type 0) (me before : ℕ) (carried : List Entry) (sends : List (ℕ × N)) → All (λ (s : ℕ × N). Fits s.0) sends
      → All (λ (w : Message N). (w.from ≡ me) × Fits w.to) (messages_from me before carried sends)
  messages-all Fits me before carried [] all k d below = absurd (omega arith)
  messages-all Fits me before carried (s ∷ sends) all zero d below = (refl, all 0 s (omega arith))
  messages-all Fits me before carried (s ∷ sends) all (suc k) d below =
      messages-all Fits me (before + 1) carried sends (all-rest (λ (x : ℕ × N). Fits x.0) s sends all) k d (omega (arith, below))

  pub length-messages : (me before : ℕ) (carried : List Entry) (sends : List (ℕ × N)) → length (messages_from me before carried sends) ≡ length sends
  length-messages me before carried [] = refl
  length-messages me before carried (s ∷ sends) = ap suc (length-messages me (before + 1) carried sends)

  pub made-fits : (g : ℕ → ℕ) (me before : ℕ) (carried : List Entry) {sends given : List (ℕ × N)} {made : List (Message N)} → given ≡ sends
      → made ≡ messages_from me before carried sends → All (λ (s : ℕ × N). length given ≤ g s.0) given → All (λ (w : Message N). length made ≤ g w.to) made
  made-fits g me before carried {sends = sends} same is all k d below =
      let fits = messages-all (λ t. length sends ≤ g t) me before carried sends (rw same at all) in
      rw is (omega (arith, (fits k d (omega (arith, below, ap length is))).1, length-messages me before carried sends))

  -- the channels after a member's messages went to the ends of theirs
  sent-in : {n me : ℕ} → me < n → (made : List (Message N)) (cs : List (List (List (Message N)))) → HasChannels n cs → All (λ (w : Message N). (w.from ≡ me) × (w.to < n)) made
      → HasChannels n (with_sent cs me made) × ((q p : ℕ) → channel_in (with_sent cs me made) q p ≡ channel_in cs q p ++ between q p made)
  sent-in below [] cs shape ends = (shape, λ q p. sym (append-nil (channel_in cs q p)))
  sent-in {n = n} {me = me} below (w ∷ made) cs shape ends =
      let one = ends 0 w (omega arith) in
      let rest = sent-in below made _ (written-shape (channel_in cs me w.to ++ w ∷ []) shape below one.1) (all-rest (λ (x : Message N). (x.from ≡ me) × (x.to < n)) w made ends) in (
        rest.0,
        λ q p. rest.1 q p ∙ rw (put-in w q p one.0 shape below one.1, append_assoc (channel_in cs q p) (between q p (w ∷ [])) (between q p made))
            (ap (λ (c : List (Message N)). channel_in cs q p ++ c) (sym (filter-append (is_on q p) (w ∷ []) made))),
      )

  -- the front is off its channel, and the messages made are at the ends of theirs
  pub settled-in : {n : ℕ} {cs : List (List (List (Message N)))} {from to : ℕ} (v : Message N) (made : List (Message N)) → HasChannels n cs → from < n → to < n
      → v.from ≡ from → v.to ≡ to → All (λ (w : Message N). (w.from ≡ to) × (w.to < n)) made
      → HasChannels n (taken_and_sent cs from to made)
      × ((q p : ℕ) → channel_in (taken_and_sent cs from to made) q p ≡ taken_off v q p (channel_in cs q p) ++ between q p made)
  settled-in {cs = cs} {from = from} {to = to} v made shape below_from below_to of_sender to_receiver ends =
      let front = drop 1 (channel_in cs from to) in
      let sent = sent-in below_to made (with_at cs from to front) (written-shape front shape below_from below_to) ends in
      let taken : (q p : ℕ) → channel_in (with_at cs from to front) q p ≡ taken_off v q p (channel_in cs q p) = λ q p. grind reads in
      (sent.0, λ q p. sent.1 q p ∙ ap (λ (c : List (Message N)). c ++ between q p made) (taken q p))

  -- the messages of a step are its sends
  pub sends-messages : (me before : ℕ) (carried : List Entry) (sends : List (ℕ × N)) → map send_of_message (messages_from me before carried sends) ≡ step_events me before sends
  sends-messages me before carried [] = refl
  sends-messages me before carried (s ∷ sends) = rw (sends-messages me (before + 1) carried sends) refl

-- ---- a delivery that is open

-- a sum that is not 0 has a term that is not
some-below : (n : ℕ) (count : ℕ → ℕ) → 0 < sum_below n count → (x : ℕ) × (x < n) × (0 < count x)
some-below zero count more = absurd (omega (arith, more))
some-below (suc n) count more = elim (cases_eq (count n) 0) [
  | inl none ↦ let r = some-below n count (omega (arith, more, none)) in (r.0, omega (arith, r.1), r.2)
  | inr some ↦ (n, omega arith, omega (arith, some))
]

-- where want of room may be first alone, it is the one that holds, or lack of memory is
full_is : (first : Option DeliverRefusal) (refusal : DeliverRefusal) → first ≡ Some refusal → (first ≡ None) ⊎ (first ≡ Some Full) → refusal ≡ Full
full_is first refusal is (inl none) = absurd cc
full_is first refusal is (inr full) = cc

full_or_memory : (first : Option DeliverRefusal) → (first ≡ None) ⊎ (first ≡ Some Full) → (refusal : DeliverRefusal) → IsDeliverRefusal first refusal → (refusal ≡ Full) ⊎ (refusal ≡ Memory)
full_or_memory first either Full is = inl refl
full_or_memory first either Memory is = inr refl
full_or_memory first either x is = inl (full_is first x is either)

room_only : (full : Bool) → ((if full then Some Full else None) ≡ None) ⊎ ((if full then Some Full else None) ≡ Some Full)
room_only true = inr refl
room_only false = inl refl

module _ {S N : Type 0} (next : Next S N) (r : GroupRecord S N) where
  -- a message that may be taken is refused only where room is wanting
  taken_then : (message : Option (Message N)) (taken : Option TakeRefusal) (v : Message N) → message ≡ Some v → taken ≡ None
      → (take_or_room next r message taken ≡ None) ⊎ (take_or_room next r message taken ≡ Some Full)
  taken_then None taken v there none = absurd cc
  taken_then (Some w) (Some refusal) v there none = absurd cc
  taken_then (Some w) None v there none = room_only (is_full r (length (step_of next r w).sends.items))

pub some_delivery_is_open : {S N : Type 0} → SomeDeliveryIsOpen S N
some_delivery_is_open next r nobody more =
    let from = some-below r.config.members (λ q. sum_below r.config.members (λ p. length (channel r q p))) more in
    let to = some-below r.config.members (λ p. length (channel r from.0 p)) from.2 in
    let first = some-at (channel r from.0 to.0) 0 to.2 in
    let none_down : set.len r.down ≡ 0 = rw nobody (len-empty _) in
    let untaken : take_refusal r to.0 from.0 ≡ None = grind (arith, nat_tests, to.1, from.1, first.1, none_down) in
    (to.0, from.0, full_or_memory (deliver_refusal next r to.0 from.0) (taken_then next r (slice_get (channel r from.0 to.0) 0) (take_refusal r to.0 from.0) first.0 first.1 untaken))
