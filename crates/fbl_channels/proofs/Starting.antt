-- Channels that are none, and those with the messages of starts.
pub use Rattle.fbl_channels.proofs.Queues.{reads, in-channels}
pub use Rattle.fbl_channels.proofs.Common.{◌≡◌, ℕ, ◌<◌, ◌++◌, ◌∷◌, Bool, List, [], length, replicate, refl, ap, arith, sym, ◌∙◌, get_or, get_or_past, get_or-replicate, length-replicate, append-nil, slice_get-get_or, at_drop_more, drop_of_length-le, filter-append, filter_map, filter_map-append, Event, Start, Settings, IsConfig, StartAllowed, Message, HasChannels, channel_in, with_at, with_sent, between, is_on, message_of_send, start_events, IsOnce-none}
use Rattle.fbl_trace.specs.declared.trace.Event.TheVariants.{Send}

module _ {N : Type 0} where
  -- channels that are none
  pub none-shape : (n : ℕ) (cs : List (List (List (Message N)))) → cs ≡ replicate n (replicate n []) → HasChannels n cs
  none-shape n cs is = grind (arith, get_or-replicate, length-replicate)

  pub none-in : (n : ℕ) (cs : List (List (List (Message N)))) (q p : ℕ) → cs ≡ replicate n (replicate n []) → channel_in cs q p ≡ []
  none-in n cs q p is = grind (arith, get_or-replicate, get_or_past, length-replicate)

-- one channel is written
module _ {N : Type 0} {n : ℕ} {cs : List (List (List (Message N)))} {a b : ℕ} (x : List (Message N)) (shape : HasChannels n cs) (below_a : a < n) (below_b : b < n) where
  pub written-shape : HasChannels n (with_at cs a b x)
  written-shape = grind reads

module _ {N : Type 0} where
  -- a message is put at the end of its channel
  pub put-in : {n : ℕ} {cs : List (List (List (Message N)))} {me : ℕ} (v : Message N) (q p : ℕ) → v.from ≡ me → HasChannels n cs → me < n → v.to < n
      → channel_in (with_at cs me v.to (channel_in cs me v.to ++ v ∷ [])) q p ≡ channel_in cs q p ++ between q p (v ∷ [])
  put-in v q p of_me shape from to = grind (reads, append-nil)

-- a start has a channel, and its message is at the end of it
module _ {N : Type 0} {c : Settings N} {starts : List (Start N)} {i : ℕ} {s : Start N} {cs : List (List (List (Message N)))} {fits : N → Bool} (is : IsConfig fits c) (all : starts ≡ c.starts) (below : i < length starts)
    (read : s ≡ get_or starts i s) (shape : HasChannels c.members cs) where
  allowed : StartAllowed fits c.members s
  allowed = is.starts i s (rw (← all, slice_get-get_or starts i s below, ← read) refl)

  pub start-places : (s.from < length cs) × (s.to < length (get_or cs s.from []))
  start-places = in-channels shape allowed.0 allowed.1

  module _ (ssn : ℕ) {after : List (List (List (Message N)))} (put : after ≡ with_sent cs s.from (record { from = s.from; to = s.to; ssn = ssn; note = s.note; carried = [] } ∷ [])) where
    pub start-shape : HasChannels c.members after
    start-shape = rw put (written-shape _ shape allowed.0 allowed.1)

    pub start-sent : (q p : ℕ) (events : List (Event N)) → channel_in cs q p ≡ between q p (filter_map message_of_send events)
        → channel_in after q p ≡ between q p (filter_map message_of_send (events ++ Send s.from ssn s.to s.note ∷ []))
    start-sent q p events was =
        rw (put, filter_map-append message_of_send events (Send s.from ssn s.to s.note ∷ []), filter-append (is_on q p) (filter_map message_of_send events), ← was)
        (put-in _ q p refl shape allowed.0 allowed.1)
