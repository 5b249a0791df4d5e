-- Channels as queues: what is seen of them, and the loops over them.
pub use Rattle.fbl_channels.proofs.Common.{All, Bool, List, Vec, [], ap, append-nil, append_assoc, arith, cond, deque_capacity, deque_items, deque_len, drop, false, get_or, inr, length, map, refl, set, suc, sym, true, vec_capacity, vec_len, ℕ, ◌++◌, ◌+◌, ◌-◌, ◌<◌, ◌||◌, ◌∙◌, ◌∷◌, ◌≡◌, ◌≤◌, ◌⊎◌, nat_tests, get_or-map, get_or-set_other, get_or-set_same, length-map, length-set, map-set, set-get_or, contains, with_item, into_iter_items, VecDeque, Members, Event, HasChannels, channel_in, Message, each, room_in, rooms, rows, send_of_message, with_at, with_sent, Channels}
use Rattle.std.specs.FinSet as set
use Rattle.std.specs.declared.alloc.Global.{Global}

-- a channel is read after a channel was written, or a list of as many
pub ruleset reads = (arith, nat_tests, get_or-set_same, get_or-set_other, length-set)

-- ---- what is seen of channels

-- one channel, and for how many messages more it has room
abbrev Queue : Type 0 → Type 0
Queue N = VecDeque (Message N) Global

abbrev spare : {N : Type 0} → Queue N → ℕ
spare queue = deque_capacity queue - deque_len queue

-- a channel that was found from q to p, in the row i at the place j: its messages, how much room is spare there, and what is seen of all channels once it is another
pub record Found {N : Type 0} (channels : Channels N) (i j q p : ℕ) (row : Vec (Queue N) Global) (one : Queue N) : Type 0 where
  pub messages : deque_items one ≡ channel_in (rows channels) q p
  pub room : spare one ≡ room_in channels q p
  pub in_room : (q < length (rooms channels)) × (p < length (get_or (rooms channels) q []))
  pub changed : (new : Queue N) {vs : List (Message N)} → deque_items new ≡ vs
      → each deque_items (set channels.rows.items i (with_item row j new)) ≡ with_at (rows channels) q p vs
  pub kept : (new : Queue N) → deque_items new ≡ deque_items one → each deque_items (set channels.rows.items i (with_item row j new)) ≡ rows channels
  pub room_set : (new : Queue N) → each spare (set channels.rows.items i (with_item row j new)) ≡ with_at (rooms channels) q p (spare new)

module _ {N : Type 0} (channels : Channels N) {i j q p : ℕ} {row : Vec (Queue N) Global} (is_q : i ≡ q) (is_p : j ≡ p)
    (places : (q < length (rows channels)) × (p < length (get_or (rows channels) q []))) (read_row : row ≡ get_or channels.rows.items i row) where
  abbrev all : List (Vec (Queue N) Global)
  all = channels.rows.items

  -- the channel has a place in its row
  pub within_row : j < length row.items
  within_row = grind (arith, get_or-map, length-map)

  -- what is seen of the channel, and of all once it is another
  module _ {one : Queue N} (read : one ≡ get_or row.items j one) where
    seen-at : {X : Type 0} (seen : Queue N → X) (d : X) → seen one ≡ get_or (get_or (each seen all) q []) p d
    seen-at seen d = grind (arith, get_or-map, length-map)

    seen-set : {X : Type 0} (seen : Queue N → X) (new : Queue N) → each seen (set all i (with_item row j new)) ≡ with_at (each seen all) q p (seen new)
    seen-set seen new = grind (arith, map-set, get_or-map, length-map)

    pub found : Found channels i j q p row one
    found = record {
      messages = seen-at deque_items [];
      room = seen-at spare 0;
      in_room = grind (arith, get_or-map, length-map);
      changed = λ new is. seen-set deque_items new ∙ ap (with_at (rows channels) q p) is;
      kept = λ new is. rw (seen-set deque_items new, is, seen-at deque_items [], set-get_or (get_or (rows channels) q []) p [], set-get_or (rows channels) q []) refl;
      room_set = seen-set spare;
    }

module _ {N : Type 0} where
  -- there is a place for each pair of members
  pub in-channels : {n : ℕ} {cs : List (List (List (Message N)))} {q p : ℕ} → HasChannels n cs → q < n → p < n → (q < length cs) × (p < length (get_or cs q []))
  in-channels {q = q} shape below_q below_p = (omega (arith, below_q, shape.senders), omega (arith, below_p, shape.receivers q below_q))

-- ---- steps of the loops

module _ {N : Type 0} where
  -- the messages that are left, of those that go on the member's channels until these are the channels in the end, and there is room for them
  pub record Sending (me : ℕ) (end : List (List (List (Message N)))) (left : List (Message N)) (cs : List (List (List (Message N)))) (room : List (List ℕ)) : Type 0 where
    pub from : me < length cs
    pub channels : with_sent cs me left ≡ end
    pub receivers : All (λ (w : Message N). w.to < length (get_or cs me [])) left
    pub fits : All (λ (w : Message N). length left ≤ get_or (get_or room me []) w.to 0) left

  pub sending-more : {me : ℕ} {end : List (List (List (Message N)))} {w : Message N} {rest : List (Message N)} {cs : List (List (List (Message N)))} {room : List (List ℕ)} (left : ℕ)
      → Sending me end (w ∷ rest) cs room → (me < length room) × (w.to < length (get_or room me [])) → left + 1 ≡ get_or (get_or room me []) w.to 0
      → Sending me end rest (with_at cs me w.to (channel_in cs me w.to ++ w ∷ [])) (with_at room me w.to left)
  sending-more {w = w} {rest = rest} left so_far places less = record {
    from = grind (reads, so_far.from);
    channels = so_far.channels;
    receivers = λ i d below. grind (reads, so_far.from, so_far.receivers (suc i) d);
    fits = λ i d below. grind (reads, so_far.fits 0 w, so_far.fits (suc i) d);
  }

-- ---- channels that are replaced, one after the other

module _ {N : Type 0} where
  -- up to the one from i to j those with an end in the set are these; the others, and all after it, are as they were
  pub record Replacing (n : ℕ) (s : Members) (by : ℕ → ℕ → List (Message N)) (old now : List (List (List (Message N)))) (i j : ℕ) : Type 0 where
    pub shape : HasChannels n now
    pub done : (q p : ℕ) → q < n → p < n → (q < i) ⊎ ((q ≡ i) × (p < j)) → channel_in now q p ≡ cond (set.contains s q || set.contains s p) (by q p) (channel_in old q p)
    pub rest : (q p : ℕ) → (i < q) ⊎ ((q ≡ i) × (j ≤ p)) → channel_in now q p ≡ channel_in old q p

module _ {N : Type 0} {n : ℕ} {s : Members} {by : ℕ → ℕ → List (Message N)} {old now : List (List (List (Message N)))} {i j : ℕ}
    (so_far : Replacing n s by old now i j) (below_i : i < n) (below_j : j < n) where
  -- a channel with an end in the set is another now, and one with none stays
  pub replacing-other : {b : Bool} {x : List (Message N)} → b ≡ (set.contains s i || set.contains s j) → b ≡ true → x ≡ by i j
      → Replacing n s by old (with_at now i j x) i (j + 1)
  replacing-other tested either is = grind reads

  pub replacing-kept : {b : Bool} → b ≡ (set.contains s i || set.contains s j) → b ≡ false → Replacing n s by old now i (j + 1)
  replacing-kept tested neither = grind arith
