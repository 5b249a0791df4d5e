-- Steps that are taken apart from the record, and deliveries: when they are refused, and what they leave and answer.
use Rattle.std.specs.Prelude.{◌≡◌, ◌≢◌, ℕ, List, ◌+◌, ◌==◌, ◌&&◌, ◌||◌, not, nat_lt, Bool, true, false, length, Option, Some, None, if◌then◌else◌, ◌<◌, ◌≤◌, [], slice_get, slice_index_or, slice_set}
use Rattle.std.specs.FinSet as set
use Rattle.fbl_trace.specs.Fold.{Next}
use Rattle.fbl_member.specs.Members.{Message, MemberRecord, blank, last_from, messages_from, next_determinant, received_by, table_after}
use Rattle.fbl_table.specs.Tables.{is_held, piggybacked}
use Rattle.fbl_law.specs.Groups.{GroupRecord, channel, member}
use Rattle.fbl_group.specs.declared.refusals.TakeRefusal.{TakeRefusal}
use Rattle.fbl_group.specs.declared.refusals.TakeRefusal.TheVariants as take
use Rattle.fbl_group.specs.declared.refusals.CommitRefusal.{CommitRefusal}
use Rattle.fbl_group.specs.declared.refusals.CommitRefusal.TheVariants as commit
use Rattle.fbl_trace.specs.declared.ticket.Ticket.{Ticket}
use Rattle.fbl_trace.specs.declared.outcome.Outcome.{Outcome}
use Rattle.fbl_law.specs.GroupSteps.{step_of, IsDelivery}
use Rattle.fbl_group.specs.declared.refusals.DeliverRefusal.{DeliverRefusal}
use Rattle.fbl_group.specs.declared.refusals.DeliverRefusal.TheVariants.{Full, Memory}
use Rattle.fbl_group.specs.declared.answers.Receipted.{Receipted}
use Rattle.fbl_group.specs.Refusals.{of_take}

-- the front of the channel from q to p
abbrev pub front : {S N : Type 0} → GroupRecord S N → ℕ → ℕ → Option (Message N)
front r q p = slice_get (channel r q p) 0

-- the front of a channel that has one, and else a message with this content
abbrev pub first_message : {N : Type 0} → N → List (Message N) → Message N
first_message note messages = slice_index_or messages 0 (record { from = 0; to = 0; ssn = 0; note = note; carried = [] })

-- the front of the channel from q to p that has one, and else a message with this content
abbrev pub front_message : {S N : Type 0} → N → GroupRecord S N → ℕ → ℕ → Message N
front_message note r q p = first_message note (channel r q p)

-- no message is on the channel
abbrev pub empty_refusal : {N : Type 0} → Option (Message N) → Option TakeRefusal
empty_refusal None = Some take.Empty
empty_refusal (Some v) = None

-- the first refusal of a ticket to p from q that holds
abbrev pub take_refusal : {S N : Type 0} → GroupRecord S N → ℕ → ℕ → Option TakeRefusal
take_refusal r p q =
    if not (nat_lt p r.config.members && nat_lt q r.config.members) then Some take.BadMember
    else (if not (set.len r.down == 0) then Some take.Down
    else empty_refusal (front r q p))

-- the ticket is that of the message: the receiver's state, the number that the receipt would get, and the message
pub record IsTicket {S N : Type 0} (r : GroupRecord S N) (v : Message N) (t : Ticket S N) : Type 0 where
  pub n : t.n ≡ r.config.members
  pub to : t.to ≡ v.to
  pub from : t.from ≡ v.from
  pub state : t.state ≡ (member r v.to).state
  pub rsn : t.rsn ≡ (member r v.to).received + 1
  pub ssn : t.ssn ≡ v.ssn
  pub note : t.note ≡ v.note

-- the record and the message are still the ticket's
pub record IsCurrent {S N : Type 0} (m : MemberRecord S N) (v : Message N) (t : Ticket S N) : Type 0 where
  pub state : m.state ≡ t.state
  pub rsn : m.received + 1 ≡ t.rsn
  pub ssn : v.ssn ≡ t.ssn
  pub note : v.note ≡ t.note

-- the group's size, the receiver's state and count of receipts, and the front's number and note are the ticket's
abbrev pub IsFresh : {S N : Type 0} → GroupRecord S N → Ticket S N → Type 0
IsFresh {N = N} r t = (r.config.members ≡ t.n) × ((v : Message N) × (front r t.from t.to ≡ Some v) × IsCurrent (member r t.to) v t)

-- whether a trace of this limit and length has no room for a receipt and this many sends, or the counter of receipts,
-- which is kept in 64 bits, can't rise
abbrev pub has_no_room : ℕ → ℕ → ℕ → ℕ → Bool
has_no_room limit len ever sends = nat_lt limit (len + 1 + sends) || (ever == 18446744073709551615)

-- the same of a group
abbrev pub is_full : {S N : Type 0} → GroupRecord S N → ℕ → Bool
is_full r sends = has_no_room r.config.limit (length r.trace) r.receipts_ever sends

-- how many messages the ticket's step sends
abbrev pub sends_at : {S N : Type 0} → Next S N → Ticket S N → ℕ
sends_at next t = length (next.step t.to t.n t.state t.note).sends.items

-- nothing but lack of memory refuses the commit of the ticket's step
pub record MayCommit {S N : Type 0} (next : Next S N) (r : GroupRecord S N) (t : Ticket S N) : Type 0 where
  pub nobody_down : set.len r.down ≡ 0
  pub fresh : IsFresh r t
  pub room : is_full r (sends_at next t) ≡ false

-- the refusal is the first that holds, in the order of the refusals; lack of memory is answered only where no other holds
abbrev pub RefusesCommit : {S N : Type 0} → Next S N → GroupRecord S N → Ticket S N → CommitRefusal → Type 0
RefusesCommit next r t commit.Down = set.len r.down ≢ 0
RefusesCommit next r t commit.Stale = (set.len r.down ≡ 0) × ¬ (IsFresh r t)
RefusesCommit next r t commit.Full = (set.len r.down ≡ 0) × IsFresh r t × (is_full r (sends_at next t) ≡ true)
RefusesCommit next r t commit.Memory = MayCommit next r t

-- there is no room for the events of the message's step
abbrev pub room_refusal : {S N : Type 0} → Next S N → GroupRecord S N → Option (Message N) → Option DeliverRefusal
room_refusal next r None = None
room_refusal next r (Some v) = if is_full r (length (step_of next r v).sends.items) then Some Full else None

-- the refusal of the ticket, or else that of the step of this message
abbrev pub take_or_room : {S N : Type 0} → Next S N → GroupRecord S N → Option (Message N) → Option TakeRefusal → Option DeliverRefusal
take_or_room next r message (Some refusal) = Some (of_take refusal)
take_or_room next r message None = room_refusal next r message

-- the first refusal of a delivery to p from q that holds, but for lack of memory: a delivery is a ticket, its step and its
-- commit, and so the refusal is the ticket's (BadMember, Down, Empty, in this order), or else want of room for the step (Full)
abbrev pub deliver_refusal : {S N : Type 0} → Next S N → GroupRecord S N → ℕ → ℕ → Option DeliverRefusal
deliver_refusal next r p q = take_or_room next r (front r q p) (take_refusal r p q)

-- the refusal is the first that holds; lack of memory is answered only where no other holds
abbrev pub IsDeliverRefusal : Option DeliverRefusal → DeliverRefusal → Type 0
IsDeliverRefusal first Memory = first ≡ None
IsDeliverRefusal first refusal = first ≡ Some refusal

-- the delivery of the message leads from old to new, and answers the receipt's number, the number of entries that the
-- message carried, and the receiver's new state
pub record Delivered {S N : Type 0} (next : Next S N) (old new : GroupRecord S N) (v : Message N) (answer : Receipted S) : Type 0 where
  pub delivery : IsDelivery next old new v
  pub rsn : answer.rsn ≡ (member old v.to).received + 1
  pub carried : answer.carried ≡ length v.carried
  pub state : answer.state ≡ (step_of next old v).state

-- what a delivery to p from q leaves and answers: the front of that channel is delivered
abbrev pub Delivers : {S N : Type 0} → Next S N → GroupRecord S N → GroupRecord S N → ℕ → ℕ → Receipted S → Type 0
Delivers {N = N} next old new p q answer = (v : Message N) × (front old q p ≡ Some v) × Delivered next old new v answer

-- the step of the delivery to p of the front of its channel from q, that nothing but lack of memory refuses. The content is
-- that of a front that there is not
pub record IsPlanned {S N : Type 0} (next : Next S N) (note : N) (r : GroupRecord S N) (q p : ℕ) (outcome : Outcome S N) : Type 0 where
  pub nobody_down : r.down ≡ set.empty
  pub to_member : p < r.config.members
  pub from_member : q < r.config.members
  pub apart : q ≢ p
  pub channel : p < length (slice_index_or r.channels q [])
  pub first : front r q p ≡ Some (front_message note r q p)
  pub step : outcome ≡ step_of next r (front_message note r q p)
  pub room : is_full r (length outcome.sends.items) ≡ false

-- the record at p of these, which are a group's
abbrev pub record_at : {S N : Type 0} → Next S N → List (MemberRecord S N) → ℕ → MemberRecord S N
record_at next members p = slice_index_or members p (blank (next.initial 0 0))

-- what the receiver's step asks of the message and of the receiver's record
pub record MayTakeIn {S N : Type 0} (next : Next S N) (n p : ℕ) (outcome : Outcome S N) (w : Message N) (x : MemberRecord S N) : Type 0 where
  pub least : 2 ≤ n
  pub most : n ≤ 16
  pub member : p < n
  pub to_me : w.to ≡ p
  pub newer : last_from x w.from < w.ssn
  pub not_held : is_held x.table (next_determinant p x w.from w.ssn) ≡ false
  pub not_carried : is_held w.carried (next_determinant p x w.from w.ssn) ≡ false
  pub step : outcome ≡ next.step p n x.state w.note
  pub receipts : x.received < 8192
  pub sends : length x.log + length outcome.sends.items ≤ 8192

-- the receiver's record takes the message in, with its step, and no other changes: the number of the receipt, and the messages of the step
pub record TakesIn {S N : Type 0} (next : Next S N) (f p : ℕ) (outcome : Outcome S N) (w : Message N) (old new : List (MemberRecord S N)) (rsn : ℕ) (made : List (Message N)) : Type 0 where
  pub members : new ≡ slice_set old p (received_by p (record_at next old p) w outcome)
  pub numbered : rsn ≡ (record_at next old p).received + 1
  pub sent : made ≡ messages_from p (length (record_at next old p).log) (piggybacked f (table_after p (record_at next old p) w)) outcome.sends.items
