-- A group's record as data, and what holds of it between any two calls.
use Rattle.std.specs.Prelude.{◌≡◌, ℕ, zero, suc, ◌+◌, ◌<◌, List, [], length, map, slice_index_or, Bool, ◌||◌, ◌≤◌, ◌==◌, take, Some, if◌then◌else◌}
use Rattle.std.specs.List.{list_any, filter, filter_map, fold}
use Rattle.fbl_trace.specs.MemberSets.{Members, AllBelow}
use Rattle.fbl_trace.specs.declared.trace.Determinant.{Determinant}
use Rattle.fbl_trace.specs.declared.trace.Event.{Event}
use Rattle.fbl_trace.specs.declared.trace.Mark.{Mark}
use Rattle.fbl_trace.specs.Configs.{Settings, IsConfig}
use Rattle.fbl_trace.specs.Events.{mark_of}
pub use Rattle.fbl_trace.specs.Events.{receipts}
use Rattle.fbl_table.specs.Tables.{is_held}
use Rattle.fbl_member.specs.Members.{Message, MemberRecord, blank, progress_of, last_from}
use Rattle.fbl_law.specs.Knowledge.{Knowledge, IsInFlight, IsUp, IsDown, IsSoundKnowledge}
use Rattle.fbl_trace.specs.declared.trace.Start.{Start}
use Rattle.fbl_trace.specs.Fold.{Next, Lawful, actions_of, notes_of, note_of, after_notes}
use Rattle.fbl_trace.specs.Rules.{taken_on}
use Rattle.fbl_member.specs.Carried.{IsOnce}

-- a group: its parameters, its members' records and their checkpoints, its channels (for each sender those to each receiver,
-- each with its messages in flight, first in, first out), its trace, who is down, and how many receipts were ever made and ever
-- undone; and the state that stands for that of a number that is no member's
pub record GroupRecord (S N : Type 0) : Type 0 where
  pub outside : S
  pub config : Settings N
  pub members : List (MemberRecord S N)
  pub checkpoints : List (MemberRecord S N)
  pub channels : List (List (List (Message N)))
  pub trace : List (Event N)
  pub down : Members
  pub receipts_ever : ℕ
  pub undone_ever : ℕ

-- the record of a member
abbrev pub member : {S N : Type 0} → GroupRecord S N → ℕ → MemberRecord S N
member r m = slice_index_or r.members m (blank r.outside)

-- the checkpoint of a member: its record as it was when it was last kept where no strike empties it
abbrev pub member_checkpoint : {S N : Type 0} → GroupRecord S N → ℕ → MemberRecord S N
member_checkpoint r m = slice_index_or r.checkpoints m (blank r.outside)

-- there are channels from each of n members to each
pub record HasChannels {N : Type 0} (n : ℕ) (channels : List (List (List (Message N)))) : Type 0 where
  pub senders : length channels ≡ n
  pub receivers : (q : ℕ) → q < n → length (slice_index_or channels q []) ≡ n

-- the one from q to p among these channels
abbrev pub channel_in : {N : Type 0} → List (List (List (Message N))) → ℕ → ℕ → List (Message N)
channel_in channels q p = slice_index_or (slice_index_or channels q []) p []

-- the channel from q to p: the messages in flight from q to p, first in, first out
abbrev pub channel : {S N : Type 0} → GroupRecord S N → ℕ → ℕ → List (Message N)
channel r q p = channel_in r.channels q p

-- the sum of the members' counts, of the members below n
abbrev pub sum_below : ℕ → (ℕ → ℕ) → ℕ
sum_below zero count = 0
sum_below (suc n) count = sum_below n count + count n

-- how many messages are in these channels, of the members below n
abbrev pub messages_in : {N : Type 0} → ℕ → List (List (List (Message N))) → ℕ
messages_in n channels = sum_below n (λ q. sum_below n (λ p. length (channel_in channels q p)))

-- how many messages are in flight, on all channels
abbrev pub messages_in_flight : {S N : Type 0} → GroupRecord S N → ℕ
messages_in_flight r = messages_in r.config.members r.channels

-- the marks of the trace
abbrev pub marks : {S N : Type 0} → GroupRecord S N → List Mark
marks r = map mark_of r.trace

-- the part of the record that the laws of causes speak of
abbrev pub knowledge : {S N : Type 0} → GroupRecord S N → Knowledge S N
knowledge r = record { outside = r.outside; trace = marks r; members = r.members; checkpoints = r.checkpoints; channel = channel r; down = r.down }

-- whether the table of some of these members or checkpoints has the determinant
abbrev pub is_recorded_among : {S N : Type 0} → List (MemberRecord S N) → List (MemberRecord S N) → Determinant → Bool
is_recorded_among {S} {N} members checkpoints d =
    list_any (λ (m : MemberRecord S N). is_held m.table d) members || list_any (λ (m : MemberRecord S N). is_held m.table d) checkpoints

-- whether some member's table (that of a member that is down is empty) or some checkpoint's has the determinant
abbrev pub is_recorded : {S N : Type 0} → GroupRecord S N → Determinant → Bool
is_recorded r d = is_recorded_among r.members r.checkpoints d

-- the notes that the member received in the trace, in order
abbrev pub received_notes : {N : Type 0} → List (Event N) → ℕ → List N
received_notes trace m = notes_of (actions_of trace m)

-- the number of the last message that p received from q, 0 if there is none
abbrev pub last_taken : List Mark → ℕ → ℕ → ℕ
last_taken trace q p = fold (λ last ssn. ssn) 0 (filter_map (taken_on q p) trace)

-- the member is at the fold of its receipts in the trace: its state, its counts and its log are those of its starts and
-- then each receipt in turn, and it knows the last message from each member
pub record IsFold {S N : Type 0} (next : Next S N) (r : GroupRecord S N) (m : ℕ) : Type 0 where
  pub progress : progress_of (member r m) ≡ after_notes next m r.config.members r.config.starts (received_notes r.trace m)
  pub places : length (member r m).last ≡ 16
  pub last : (q : ℕ) → q < 16 → last_from (member r m) q ≡ last_taken (marks r) q m

-- the determinants of the member's receipts, in order
abbrev pub receipts_at : List Mark → ℕ → List Determinant
receipts_at trace p = filter (λ d. d.to == p) (receipts trace)

-- the number of the last message from q that these receipts take, 0 if there is none
abbrev pub last_among : List Determinant → ℕ → ℕ
last_among ds q = fold (λ last d. if d.from == q then d.ssn else last) 0 ds

-- the member p is at the fold of its first receipts in the trace, as many as it has had
pub record IsReplayed {S N : Type 0} (next : Next S N) (n : ℕ) (starts : List (Start N)) (trace : List (Event N)) (p : ℕ) (m : MemberRecord S N) : Type 0 where
  pub within : m.received ≤ length (receipts_at (map mark_of trace) p)
  pub progress : progress_of m ≡ after_notes next p n starts (take m.received (received_notes trace p))
  pub places : length m.last ≡ 16
  pub last : (q : ℕ) → q < 16 → last_from m q ≡ last_among (take m.received (receipts_at (map mark_of trace) p)) q

-- the member's checkpoint is at the fold of its first receipts in the trace, as many as it has had
abbrev pub IsCheckpointFold : {S N : Type 0} → Next S N → GroupRecord S N → ℕ → Type 0
IsCheckpointFold next r m = IsReplayed next r.config.members r.config.starts r.trace m (member_checkpoint r m)

-- a group's record is sound: its parameters are allowed, each member has a record and a checkpoint, only members are
-- down, its trace is lawful and within its limit, each up member is at the fold of its receipts and each down member is
-- blank, each checkpoint is at the fold of its member's first receipts, no table names a determinant twice, what the tables
-- know is true and closed, there are channels from each member to each, which have exactly the messages not yet received,
-- each with the note with which it was sent, at most f members are down, and the counters agree with the trace
pub record IsSound {S N : Type 0} (next : Next S N) (r : GroupRecord S N) : Type 0 where
  pub config : IsConfig next.allowed r.config
  pub members : length r.members ≡ r.config.members
  pub checkpoints : length r.checkpoints ≡ r.config.members
  pub down : AllBelow r.down r.config.members
  pub lawful : Lawful next r.config.members r.config.starts r.trace
  pub room : length r.trace ≤ r.config.limit
  pub causes : IsSoundKnowledge r.config.members r.config.f (knowledge r)
  pub folds : (m : ℕ) → m < r.config.members → IsUp (knowledge r) m → IsFold next r m
  pub blanks : (m : ℕ) → m < r.config.members → IsDown (knowledge r) m → member r m ≡ blank (next.initial m r.config.members)
  pub saved : (m : ℕ) → m < r.config.members → IsCheckpointFold next r m
  pub distinct : (m : ℕ) → IsOnce (member r m).table
  pub shape : HasChannels r.config.members r.channels
  pub notes : (v : Message N) → IsInFlight (knowledge r) v → note_of r.trace v.from v.ssn ≡ Some v.note
  pub counted : length (receipts (marks r)) + r.undone_ever ≡ r.receipts_ever

-- what holds of every sound group
abbrev pub OfSound : (S N : Type 0) → (GroupRecord S N → Type 0) → Type 0
OfSound S N P = (next : Next S N) (r : GroupRecord S N) → IsSound next r → P r
