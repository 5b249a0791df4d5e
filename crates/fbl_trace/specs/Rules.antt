-- The rules of events: numbers without gaps, and channels that are first in, first out; and what is counted while they are tested.
use Rattle.std.specs.Prelude.{ℕ, ◌+◌, ◌<◌, ◌≡◌, ◌≢◌, ◌==◌, Bool, false, not, ◌&&◌, List, length, take, Option, Some, None, slice_get, count_by, if◌then◌else◌, ◌*◌, [], ◌∷◌, ◌++◌}
use Rattle.std.specs.Prelude.{drop, slice_index, slice_index_or, slice_set}
use Rattle.std.specs.List.{filter, filter_map, list_any}
use Rattle.fbl_trace.specs.declared.trace.Mark.{Mark}
use Rattle.fbl_trace.specs.declared.trace.Mark.TheVariants.{Send, Receipt}
use Rattle.fbl_trace.specs.Events.{At, source_of, destination_of}
use Rattle.fbl_trace.specs.declared.rules.Counts.{Counts}

-- whether the event is a send of the member
abbrev pub is_send_of : ℕ → Mark → Bool
is_send_of member (Send from ssn to) = from == member
is_send_of member (Receipt to rsn from ssn) = false

-- whether the event is a receipt of the member
abbrev pub is_receipt_of : ℕ → Mark → Bool
is_receipt_of member (Send from ssn to) = false
is_receipt_of member (Receipt to rsn from ssn) = to == member

-- how many sends a member has
abbrev pub sends_of : List Mark → ℕ → ℕ
sends_of trace member = count_by (is_send_of member) trace

-- how many receipts a member has
abbrev pub receipts_of : List Mark → ℕ → ℕ
receipts_of trace member = count_by (is_receipt_of member) trace

-- the number of the message, if the event is a send from the one member to the other
abbrev pub sent_on : ℕ → ℕ → Mark → Option ℕ
sent_on from to (Send from' ssn to') = if from' == from && to' == to then Some ssn else None
sent_on from to (Receipt to' rsn from' ssn) = None

-- the number of the message that is taken, if the event is a receipt on the channel from the one member to the other
abbrev pub taken_on : ℕ → ℕ → Mark → Option ℕ
taken_on from to (Send from' ssn to') = None
taken_on from to (Receipt to' rsn from' ssn) = if from' == from && to' == to then Some ssn else None

-- the numbers of the messages that one member sent to another and that are not yet received, in order
abbrev pub in_flight : List Mark → ℕ → ℕ → List ℕ
in_flight trace from to = filter (λ ssn. not (list_any (λ taken. taken == ssn) (filter_map (taken_on from to) trace))) (filter_map (sent_on from to) trace)

-- the event may come next after the trace: its members differ and are below n, its number is the next one of its member,
-- a receipt takes the first message in flight on its channel, and the trace has fewer than 8192 events
abbrev pub MayFollow : ℕ → List Mark → Mark → Type 0
MayFollow n trace (Send from ssn to) = (from < n) × (to < n) × (from ≢ to) × (ssn ≡ sends_of trace from + 1) × (length trace < 8192)
MayFollow n trace (Receipt to rsn from ssn) = (from < n) × (to < n) × (from ≢ to) × (rsn ≡ receipts_of trace to + 1) × (length trace < 8192) × (slice_get (in_flight trace from to) 0 ≡ Some ssn)

-- the event at the place, if there is one, may come there
abbrev pub ObeysAt : ℕ → List Mark → ℕ → Type 0
ObeysAt n trace i = (e : Mark) → At trace i e → MayFollow n (take i trace) e

-- each event may come where it stands
abbrev pub WellFormed : ℕ → List Mark → Type 0
WellFormed n trace = (i : ℕ) → ObeysAt n trace i

-- the counts of sends and receipts, and the numbers in flight on each channel, are those of the trace
pub record Counted (trace : List Mark) (c : Counts) : Type 0 where
  pub sends : (q : ℕ) → q < 16 → slice_index c.sends q ≡ sends_of trace q
  pub receipts : (p : ℕ) → p < 16 → slice_index c.receipts p ≡ receipts_of trace p
  pub channels : (q p : ℕ) → q < 16 → p < 16 → slice_index_or c.channels.items (16 * q + p) [] ≡ in_flight trace q p
  pub sends_length : length c.sends ≡ 16
  pub receipts_length : length c.receipts ≡ 16
  pub channels_length : length c.channels.items ≡ 256

-- the number that the event has to have, by the counts
abbrev pub next_by : Counts → Mark → ℕ
next_by c (Send from ssn to) = slice_index c.sends from + 1
next_by c (Receipt to rsn from ssn) = slice_index c.receipts to + 1

-- the first message in flight on its channel, by the counts
abbrev pub first_by : Counts → Mark → Option ℕ
first_by c e = slice_get (slice_index_or c.channels.items (16 * source_of e + destination_of e) []) 0

-- the counts with one more event
abbrev pub CountsEvent : Mark → Counts → Counts → Type 0
CountsEvent (Send from ssn to) old new =
    (new.sends ≡ slice_set old.sends from ssn)
    × (new.receipts ≡ old.receipts)
    × (new.channels.items ≡ slice_set old.channels.items (16 * from + to) (slice_index_or old.channels.items (16 * from + to) [] ++ ssn ∷ []))
CountsEvent (Receipt to rsn from ssn) old new =
    (new.sends ≡ old.sends)
    × (new.receipts ≡ slice_set old.receipts to rsn)
    × (new.channels.items ≡ slice_set old.channels.items (16 * from + to) (drop 1 (slice_index_or old.channels.items (16 * from + to) [])))
