-- What a group's tables know: holders, recorded, stable, true knowledge, closed, always held. A receipt's holders are
-- Log(m), the members that depend on it Depend(m), and that each receipt is stable or held by each member that depends
-- on it is the always-no-orphans condition, of Alvisi and Marzullo, Message Logging: Pessimistic, Optimistic, Causal and
-- Optimal (IEEE TSE 24(2), 1998). Checkpoints and orphans are those of Elnozahy, Alvisi, Wang and Johnson (ACM CSUR
-- 34(3), 2002).
use Rattle.std.specs.Prelude.{◌≡◌, ℕ, ◌<◌, ◌≤◌, ◌⊎◌, true, false, List, [], length, slice_index_or, map, ⊤}
use Rattle.std.specs.List.{Contains}
use Rattle.std.specs.FinSet as set
use Rattle.fbl_trace.specs.MemberSets.{Members}
use Rattle.fbl_trace.specs.declared.trace.Determinant.{Determinant}
use Rattle.fbl_trace.specs.declared.trace.Mark.{Mark}
use Rattle.fbl_trace.specs.declared.trace.Mark.TheVariants.{Send, Receipt}
use Rattle.fbl_trace.specs.Events.{member_of, receipt_of}
use Rattle.fbl_trace.specs.Precedence.{Has, Precedes, Depends}
use Rattle.fbl_trace.specs.Rules.{WellFormed, in_flight}
use Rattle.fbl_table.specs.declared.entry.Entry.{Entry}
use Rattle.fbl_member.specs.Members.{Message, MemberRecord, blank}

-- the set has the member
abbrev pub Includes : Members → ℕ → Type 0
Includes s m = set.contains s m ≡ true

-- what the laws of causes speak of: the group's trace, the members' records (of which they read the tables) and their
-- checkpoints, the channel of each pair of members, and who is down; and the state that stands for that of a number that is no
-- member's
pub record Knowledge (S N : Type 0) : Type 0 where
  pub outside : S
  pub trace : List Mark
  pub members : List (MemberRecord S N)
  pub checkpoints : List (MemberRecord S N)
  pub channel : ℕ → ℕ → List (Message N)
  pub down : Members

-- the table of a member
abbrev pub table : {S N : Type 0} → Knowledge S N → ℕ → List Entry
table r m = (slice_index_or r.members m (blank r.outside)).table

-- the checkpoint of a member (Elnozahy and others 2002): its record as it was at an earlier time, at first its fresh one,
-- which no strike empties and from which it recovers
abbrev pub checkpoint : {S N : Type 0} → Knowledge S N → ℕ → MemberRecord S N
checkpoint r m = slice_index_or r.checkpoints m (blank r.outside)

-- the send of a message
abbrev pub send_mark : {N : Type 0} → Message N → Mark
send_mark v = Send v.from v.ssn v.to

-- the message is in the channel from its sender to its receiver
abbrev pub IsInFlight : {S N : Type 0} → Knowledge S N → Message N → Type 0
IsInFlight r v = Contains (r.channel v.from v.to) v

-- the member is down
abbrev pub IsDown : {S N : Type 0} → Knowledge S N → ℕ → Type 0
IsDown r m = set.contains r.down m ≡ true

-- the member isn't down
abbrev pub IsUp : {S N : Type 0} → Knowledge S N → ℕ → Type 0
IsUp r m = set.contains r.down m ≡ false

-- some entry has the determinant
abbrev pub Names : List Entry → Determinant → Type 0
Names entries d = (e : Entry) × Contains entries e × (e.det ≡ d)

-- the member is up, and its table has the determinant
abbrev pub Holds : {S N : Type 0} → Knowledge S N → Determinant → ℕ → Type 0
Holds r d m = IsUp r m × Names (table r m) d

-- the determinant is recorded: some member holds it, or the table of some member's checkpoint names it
abbrev pub IsRecorded : {S N : Type 0} → Knowledge S N → Determinant → Type 0
IsRecorded r d = ((m : ℕ) × Holds r d m) ⊎ ((m : ℕ) × Names (checkpoint r m).table d)

-- the member counts as a holder: it holds the determinant, or it is down and recovery will give it to it
abbrev pub IsHolder : {S N : Type 0} → Knowledge S N → Determinant → ℕ → Type 0
IsHolder r d m = Holds r d m ⊎ (IsDown r m × IsRecorded r d)

-- more than f members are holders
abbrev pub IsStable : {S N : Type 0} → ℕ → Knowledge S N → Determinant → Type 0
IsStable f r d = (s : Members) × (f < set.len s) × ((m : ℕ) → Includes s m → IsHolder r d m)

-- the entry is of a receipt of the trace, and each member that it knows to hold it is a holder
abbrev pub IsTrueEntry : {S N : Type 0} → Knowledge S N → Entry → Type 0
IsTrueEntry r e = Has r.trace (receipt_of e.det) × ((m : ℕ) → Includes e.known m → IsHolder r e.det m)

-- where entries are kept: in a member's table, in a message in flight, in a member's checkpoint
pub data Store (N : Type 0) : Type 0 where
  in_table : ℕ → Store N
  in_message : Message N → Store N
  in_checkpoint : ℕ → Store N

-- whose entries they are: a message's are its sender's
abbrev pub owner : {N : Type 0} → Store N → ℕ
owner (in_table m) = m
owner (in_message v) = v.from
owner (in_checkpoint m) = m

-- the entries of a store
abbrev pub entries : {S N : Type 0} → Knowledge S N → Store N → List Entry
entries r (in_table m) = table r m
entries r (in_message v) = v.carried
entries r (in_checkpoint m) = (checkpoint r m).table

-- the stores that count: the tables of up members, the messages in flight, and all checkpoints
abbrev pub IsThere : {S N : Type 0} → Knowledge S N → Store N → Type 0
IsThere r (in_table m) = IsUp r m
IsThere r (in_message v) = IsInFlight r v
IsThere r (in_checkpoint m) = ⊤

-- true knowledge: entries are true, and known to be held by their owner
abbrev pub KnowsTruth : {S N : Type 0} → Knowledge S N → Type 0
KnowsTruth {N = N} r = (k : Store N) (e : Entry) → IsThere r k → Contains (entries r k) e → IsTrueEntry r e × Includes e.known (owner k)

-- the entries name each receipt that precedes the event, but for stable ones
abbrev pub NamesCauses : {S N : Type 0} → ℕ → Knowledge S N → List Entry → Mark → Type 0
NamesCauses f r entries b = (d : Determinant) → Precedes r.trace (receipt_of d) b → Names entries d ⊎ IsStable f r d

-- the event's number is within the counts of its member's record
abbrev pub IsWithin : {S N : Type 0} → MemberRecord S N → Mark → Type 0
IsWithin m (Send from ssn to) = ssn ≤ length m.log
IsWithin m (Receipt to rsn from ssn) = rsn ≤ m.received

-- the event comes from before its member's checkpoint
abbrev pub IsBeforeCheckpoint : {S N : Type 0} → Knowledge S N → Mark → Type 0
IsBeforeCheckpoint r b = IsWithin (checkpoint r (member_of b)) b

-- the events whose causes a store owes: a table its member's events, a message its send, a checkpoint its member's events
-- from before it
abbrev pub Owes : {S N : Type 0} → Knowledge S N → Store N → Mark → Type 0
Owes r (in_table m) b = member_of b ≡ m
Owes r (in_message v) b = send_mark v ≡ b
Owes r (in_checkpoint m) b = (member_of b ≡ m) × IsWithin (checkpoint r m) b

-- each store names the causes of the events that it owes, and of the receipts that it names
pub record IsClosed {S N : Type 0} (f : ℕ) (r : Knowledge S N) : Type 0 where
  pub events : (k : Store N) (b : Mark) → IsThere r k → Owes r k b → NamesCauses f r (entries r k) b
  pub named : (k : Store N) (c : Determinant) → IsThere r k → Names (entries r k) c → NamesCauses f r (entries r k) (receipt_of c)

-- each receipt of the trace has more than f holders, or is held by each up member that depends on it
abbrev pub IsAlwaysHeld : {S N : Type 0} → ℕ → Knowledge S N → Type 0
IsAlwaysHeld f r =
    (d : Determinant) → Has r.trace (receipt_of d) → IsStable f r d ⊎ ((m : ℕ) → IsUp r m → Depends r.trace m (receipt_of d) → Holds r d m)

-- an up member is an orphan where it depends on a receipt that isn't recorded
abbrev pub IsOrphan : {S N : Type 0} → Knowledge S N → ℕ → Type 0
IsOrphan r m = IsUp r m × ((d : Determinant) × Depends r.trace m (receipt_of d) × ¬ (IsRecorded r d))

-- the channel from q to p has the messages that the trace has in flight from q to p, in order
abbrev pub MatchesTrace : {S N : Type 0} → Knowledge S N → ℕ → ℕ → Type 0
MatchesTrace r q p = map send_mark (r.channel q p) ≡ map (λ ssn. Send q ssn p) (in_flight r.trace q p)

-- at most f members are down, and they have nothing, nor is anything in flight from them or to them
pub record IsDownEmpty {S N : Type 0} (f : ℕ) (r : Knowledge S N) : Type 0 where
  pub few : set.len r.down ≤ f
  pub tables : (m : ℕ) → IsDown r m → table r m ≡ []
  pub channels : (q p : ℕ) → IsDown r q ⊎ IsDown r p → r.channel q p ≡ []

-- an up member's table names what its checkpoint's table names
abbrev pub IsCheckpointKept : {S N : Type 0} → Knowledge S N → ℕ → Type 0
IsCheckpointKept r m = (d : Determinant) → IsUp r m → Names (checkpoint r m).table d → Names (table r m) d

-- what holds of what a group of n members knows, between two calls: its trace is well formed, knowledge is true and closed,
-- the channels between members that are up have what the trace has in flight, at most f members are down and have nothing,
-- and checkpoints are kept
pub record IsSoundKnowledge {S N : Type 0} (n f : ℕ) (r : Knowledge S N) : Type 0 where
  pub rules : WellFormed n r.trace
  pub truth : KnowsTruth r
  pub closed : IsClosed f r
  pub channels : (q p : ℕ) → IsUp r q → IsUp r p → MatchesTrace r q p
  pub down : IsDownEmpty f r
  pub checkpoints : (m : ℕ) → IsCheckpointKept r m
