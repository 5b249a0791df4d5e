-- The channels as queues of messages.
use Rattle.std.specs.Prelude.{◌≡◌, ℕ, ◌-◌, ◌<◌, ◌||◌, List, [], ◌∷◌, ◌++◌, Vec, map, drop, slice_index_or, slice_set, sum_by, if◌then◌else◌}
use Rattle.std.specs.FinSet as set
use Rattle.std.specs.VecDeque.{deque_items, deque_len, deque_capacity}
use Rattle.fbl_trace.specs.MemberSets.{Members}
use Rattle.fbl_trace.specs.declared.trace.Note.{Note}
use Rattle.fbl_trace.specs.declared.trace.Event.{Event}
use Rattle.fbl_trace.specs.declared.trace.Event.TheVariants.{Send}
use Rattle.fbl_member.specs.Members.{Message}
use Rattle.fbl_channels.specs.declared.channels.Channels.{Channels}
use Rattle.fbl_law.specs.Groups.{HasChannels, channel_in, sum_below}

-- what is seen of each channel, for each sender of those to each receiver
abbrev pub each : {A X Y : Type 0} → (X → Y) → List (Vec X A) → List (List Y)
each seen rows = map (λ row. map seen row.items) rows

-- the messages of each channel, its front first
abbrev pub rows : {N : Type 0} → Channels N → List (List (List (Message N)))
rows channels = each deque_items channels.rows.items

-- for how many messages more each channel has room
abbrev pub rooms : {N : Type 0} → Channels N → List (List ℕ)
rooms channels = each (λ channel. deque_capacity channel - deque_len channel) channels.rows.items

-- for how many messages more the channel from q to p has room
abbrev pub room_in : {N : Type 0} → Channels N → ℕ → ℕ → ℕ
room_in channels q p = slice_index_or (slice_index_or (rooms channels) q []) p 0

-- what there is for each pair, with x in its place from q to p
abbrev pub with_at : {X : Type 0} → List (List X) → ℕ → ℕ → X → List (List X)
with_at all q p x = slice_set all q (slice_set (slice_index_or all q []) p x)

-- the channels after these messages of q went to the ends of theirs
abbrev pub with_sent : {N : Type 0} → List (List (List (Message N))) → ℕ → List (Message N) → List (List (List (Message N)))
with_sent channels q [] = channels
with_sent channels q (v ∷ vs) = with_sent (with_at channels q v.to (channel_in channels q v.to ++ v ∷ [])) q vs

-- the channels after the front of the one from q to p was taken off it, and then these messages of p went to the ends of theirs
abbrev pub taken_and_sent : {N : Type 0} → List (List (List (Message N))) → ℕ → ℕ → List (Message N) → List (List (List (Message N)))
taken_and_sent channels q p messages = with_sent (with_at channels q p (drop 1 (channel_in channels q p))) p messages

-- the channels with an end in the set are these, and the others stay
pub record AreReplaced {N : Type 0} (n : ℕ) (s : Members) (by : ℕ → ℕ → List (Message N)) (old new : List (List (List (Message N)))) : Type 0 where
  pub shape : HasChannels n new
  pub each : (q p : ℕ) → q < n → p < n → channel_in new q p ≡ (if set.contains s q || set.contains s p then by q p else channel_in old q p)

-- the send of a message, with its note
abbrev pub send_of_message : {N : Type 0} → Message N → Event N
send_of_message v = Send v.from v.ssn v.to v.note

-- what messages hold: the sum of their values
abbrev pub value_of : List (Message Note) → ℕ
value_of messages = sum_by (λ (v : Message Note). v.note.value) messages

-- what the messages in these channels hold, of the members below n
abbrev pub values_in : ℕ → List (List (List (Message Note))) → ℕ
values_in n channels = sum_below n (λ q. sum_below n (λ p. value_of (channel_in channels q p)))
