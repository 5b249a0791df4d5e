-- What deliveries, strikes, checkpoints and recoveries do to a group's record, and where a member that replays its receipts has come.
-- What a delivery takes off and puts onto channels, what a recovery gathers, and what it leaves of a trace. That determinants are
-- piggybacked on messages until more than f members are known to hold them is family-based logging (Alvisi, Hoppe and Marzullo
-- 1993); checkpoints, and recovery from them by replay, are those of Elnozahy and others (2002).
use Rattle.std.specs.Prelude.{◌≡◌, ℕ, zero, suc, ◌⊎◌, ◌↔◌, ◌==◌, ◌&&◌, Bool, true, List, [], ◌∷◌, ◌++◌, length, map, drop, slice_index_or, if◌then◌else◌, ◌+◌, ◌<◌, ◌≤◌, Option}
use Rattle.std.specs.Prelude.{Some, None, slice_get, slice_set, ◌≢◌, ◌-◌, ◌||◌, not, nat_le, nat_lt, false, take}
use Rattle.std.specs.List.{filter, fold, Contains, filter_map, position_or_len}
use Rattle.std.specs.FinSet as set
use Rattle.fbl_trace.specs.MemberSets.{Members}
use Rattle.fbl_trace.specs.declared.trace.Determinant.{Determinant}
use Rattle.fbl_trace.specs.declared.trace.Mark.{Mark}
use Rattle.fbl_trace.specs.declared.trace.Event.{Event}
use Rattle.fbl_trace.specs.Events.{member_of, mark_of, receipt_of}
use Rattle.fbl_trace.specs.Precedence.{Has, Earlier}
use Rattle.fbl_law.specs.Knowledge.{Knowledge, IsDown, IsRecorded, IsUp, MatchesTrace}
use Rattle.fbl_table.specs.declared.entry.Entry.{Entry}
use Rattle.fbl_table.specs.Tables.{gathered, marked, piggybacked, is_held, found}
use Rattle.fbl_member.specs.Members.{Message, MemberRecord, blank, fresh, received_by, messages_from, last_from, logged_note, logged_beyond}
use Rattle.fbl_trace.specs.declared.outcome.Outcome.{Outcome}
use Rattle.fbl_trace.specs.declared.trace.Event.TheVariants.{Send, Receipt}
use Rattle.fbl_trace.specs.declared.trace.Start.{Start}
use Rattle.fbl_trace.specs.Configs.{Settings}
use Rattle.fbl_trace.specs.Rules.{sends_of, receipts_of}
use Rattle.fbl_trace.specs.Fold.{Next, note_of, step_events}
use Rattle.fbl_law.specs.Groups.{GroupRecord, HasChannels, member, member_checkpoint, channel, marks, knowledge, receipts, IsFold, sum_below, IsReplayed}
use Rattle.fbl_trace.specs.declared.trace.Mark.TheVariants.{Send, Receipt}

-- several tables' entries, one table after the other
abbrev pub gathered_all : List Entry → List (List Entry) → List Entry
gathered_all table ts = fold gathered table ts

-- the tables of the checkpoints of the members of the set that are below n, in member order
abbrev pub saved_tables : {S N : Type 0} → S → Members → List (MemberRecord S N) → ℕ → List (List Entry)
saved_tables outside s checkpoints zero = []
saved_tables outside s checkpoints (suc m) =
    saved_tables outside s checkpoints m ++ (if set.contains s m then (slice_index_or checkpoints m (blank outside)).table ∷ [] else [])

-- what recovery gives the members that are down: the survivors' tables in member order (the others' are empty) and then
-- those of the checkpoints of the members that are down, in member order, where those that are down count as holders
abbrev pub recovery_table : {S N : Type 0} → Knowledge S N → List Entry
recovery_table {S} {N} r = marked r.down (gathered_all [] (map (λ (m : MemberRecord S N). m.table) r.members ++ saved_tables r.outside r.down r.checkpoints (length r.checkpoints)))

-- the message goes from q to p
abbrev pub is_on : {N : Type 0} → ℕ → ℕ → Message N → Bool
is_on q p v = v.from == q && v.to == p

-- the messages among these that go from q to p
abbrev pub between : {N : Type 0} → ℕ → ℕ → List (Message N) → List (Message N)
between q p made = filter (is_on q p) made

-- what is left of a channel where the message v is taken off its front
abbrev pub taken_off : {N : Type 0} → Message N → ℕ → ℕ → List (Message N) → List (Message N)
taken_off v q p channel = if v.from == q && v.to == p then drop 1 channel else channel

-- a comes no later than b
abbrev pub UpTo : List Mark → Mark → Mark → Type 0
UpTo trace a b = (a ≡ b) ⊎ Earlier trace a b

-- the event stays: its member is up, or each of the member's receipts up to it is recorded
abbrev pub Stays : {S N : Type 0} → Knowledge S N → Mark → Type 0
Stays r e = IsDown r (member_of e) → (c : Determinant) → c.to ≡ member_of e → UpTo r.trace (receipt_of c) e → IsRecorded r c

-- the second trace is the first one without the events of it that aren't kept
abbrev pub IsEventCut : {N : Type 0} → (Mark → Type 0) → List (Event N) → List (Event N) → Type 0
IsEventCut Kept old new =
    (keep : Mark → Bool) × (new ≡ filter (λ e. keep (mark_of e)) old) × ((e : Mark) → Has (map mark_of old) e → (keep e ≡ true) ↔ Kept e)

-- the events so far, and then the starts' sends in list order, each with its sender's next number
abbrev pub start_events : {N : Type 0} → List (Event N) → List (Start N) → List (Event N)
start_events done [] = done
start_events done (s ∷ starts) =
    start_events (done ++ Send s.from (sends_of (map mark_of done) s.from + 1) s.to s.note ∷ []) starts

-- the message of a send, which carries nothing
abbrev pub message_of_send : {N : Type 0} → Event N → Option (Message N)
message_of_send (Send from ssn to note) = Some (record { from = from; to = to; ssn = ssn; note = note; carried = [] })
message_of_send (Receipt to rsn from ssn) = None

-- a group in which nothing is received yet: its trace has the starts' sends, their messages are in their channels and
-- carry nothing, each member and its checkpoint are fresh, nobody is down, and the counters are 0
pub record IsGroupStart {S N : Type 0} (next : Next S N) (config : Settings N) (new : GroupRecord S N) : Type 0 where
  pub parameters : new.config ≡ config
  pub trace : new.trace ≡ start_events [] config.starts
  pub shape : HasChannels config.members new.channels
  pub channels : (q p : ℕ) → channel new q p ≡ between q p (filter_map message_of_send new.trace)
  pub size : length new.members ≡ config.members
  pub members : (m : ℕ) → m < config.members → member new m ≡ fresh (next.initial m config.members) m config.starts
  pub checkpoints : length new.checkpoints ≡ config.members
  pub saved : (m : ℕ) → m < config.members → member_checkpoint new m ≡ fresh (next.initial m config.members) m config.starts
  pub nobody_down : new.down ≡ set.empty
  pub receipts_ever : new.receipts_ever ≡ 0
  pub undone_ever : new.undone_ever ≡ 0

-- what the behaviour answers when the message is delivered
abbrev pub step_of : {S N : Type 0} → Next S N → GroupRecord S N → Message N → Outcome S N
step_of next r v = next.step v.to r.config.members (member r v.to).state v.note

-- the receiver of the message after its delivery
abbrev pub receiver : {S N : Type 0} → Next S N → GroupRecord S N → Message N → MemberRecord S N
receiver next r v = received_by v.to (member r v.to) v (step_of next r v)

-- the messages that the delivery makes: they carry what the receiver then passes on
abbrev pub made : {S N : Type 0} → Next S N → GroupRecord S N → Message N → List (Message N)
made next r v =
    messages_from v.to (length (member r v.to).log) (piggybacked r.config.f (receiver next r v).table) (step_of next r v).sends.items

-- the events of the delivery: the receipt, and the step's sends in order
abbrev pub delivery_events : {S N : Type 0} → Next S N → GroupRecord S N → Message N → List (Event N)
delivery_events next r v =
    Receipt v.to ((member r v.to).received + 1) v.from v.ssn ∷ step_events v.to (length (member r v.to).log) (step_of next r v).sends.items

-- the delivery of the message v leads from old to new: nobody is down, v's ends are members of the group, v is the front of
-- its channel and is taken off it, the trace gets the receipt and exactly its step's sends and stays within the limit, the
-- messages made go to the ends of their channels, the receiver moves on, the counter of receipts rises by one, and nothing
-- else changes
pub record IsDelivery {S N : Type 0} (next : Next S N) (old new : GroupRecord S N) (v : Message N) : Type 0 where
  pub nobody_down : old.down ≡ set.empty
  pub front : slice_get (channel old v.from v.to) 0 ≡ Some v
  pub to_member : v.to < old.config.members
  pub from_member : v.from < old.config.members
  pub room : length new.trace ≤ old.config.limit
  pub trace : new.trace ≡ old.trace ++ delivery_events next old v
  pub members : new.members ≡ slice_set old.members v.to (receiver next old v)
  pub shape : HasChannels old.config.members new.channels
  pub channels : (q p : ℕ) → channel new q p ≡ taken_off v q p (channel old q p) ++ between q p (made next old v)
  pub receipts_ever : new.receipts_ever ≡ old.receipts_ever + 1
  pub undone_ever : new.undone_ever ≡ old.undone_ever
  pub config : new.config ≡ old.config
  pub down : new.down ≡ old.down
  pub checkpoints : new.checkpoints ≡ old.checkpoints
  pub outside : new.outside ≡ old.outside

-- a strike leads from old to new: the members named are down beside those that were, the records of those that are down
-- are blank and the channels with such an end are empty, and nothing else changes
pub record IsStrike {S N : Type 0} (next : Next S N) (old new : GroupRecord S N) (struck : Members) : Type 0 where
  pub down : new.down ≡ set.union old.down struck
  pub size : length new.members ≡ length old.members
  pub survivors : (m : ℕ) → IsUp (knowledge new) m → member new m ≡ member old m
  pub blanks : (m : ℕ) → IsDown (knowledge new) m → member new m ≡ blank (next.initial m old.config.members)
  pub shape : HasChannels old.config.members new.channels
  pub channels : (q p : ℕ) → IsUp (knowledge new) q → IsUp (knowledge new) p → channel new q p ≡ channel old q p
  pub emptied : (q p : ℕ) → IsDown (knowledge new) q ⊎ IsDown (knowledge new) p → channel new q p ≡ []
  pub trace : new.trace ≡ old.trace
  pub config : new.config ≡ old.config
  pub receipts_ever : new.receipts_ever ≡ old.receipts_ever
  pub undone_ever : new.undone_ever ≡ old.undone_ever
  pub checkpoints : new.checkpoints ≡ old.checkpoints
  pub outside : new.outside ≡ old.outside

-- a checkpoint of the member p leads from old to new: nobody is down, the member's record is kept in the place of its
-- older checkpoint, and nothing else changes
pub record IsCheckpoint {S N : Type 0} (old new : GroupRecord S N) (p : ℕ) : Type 0 where
  pub nobody_down : old.down ≡ set.empty
  pub below : p < old.config.members
  pub saved : new ≡ record old { checkpoints = slice_set old.checkpoints p (member old p) }

-- the channel from q to p is made again: it has exactly the sends from q to p that p has not received, in order, with
-- their notes, and each message carries what its sender then passes on
pub record IsMadeAgain {S N : Type 0} (r : GroupRecord S N) (q p : ℕ) : Type 0 where
  pub sends : MatchesTrace (knowledge r) q p
  pub notes : (v : Message N) → Contains (channel r q p) v → note_of r.trace v.from v.ssn ≡ Some v.note
  pub carried : (v : Message N) → Contains (channel r q p) v → v.carried ≡ piggybacked r.config.f (member r q).table

-- what stays in a recovery: survivors, the channels between them, the configuration, the counter of receipts and the
-- checkpoints; and nobody is down, and the counter of undone receipts rises by as many as the trace has fewer
pub record IsBroughtBack {S N : Type 0} (old new : GroupRecord S N) : Type 0 where
  pub nobody_down : new.down ≡ set.empty
  pub size : length new.members ≡ length old.members
  pub survivors : (m : ℕ) → IsUp (knowledge old) m → member new m ≡ member old m
  pub shape : HasChannels old.config.members new.channels
  pub channels : (q p : ℕ) → IsUp (knowledge old) q → IsUp (knowledge old) p → channel new q p ≡ channel old q p
  pub config : new.config ≡ old.config
  pub receipts_ever : new.receipts_ever ≡ old.receipts_ever
  pub undone_ever : new.undone_ever + length (receipts (marks new)) ≡ old.undone_ever + length (receipts (marks old))
  pub checkpoints : new.checkpoints ≡ old.checkpoints
  pub outside : new.outside ≡ old.outside

-- a recovery leads from old to new: the rest stays (`IsBroughtBack`), survivors too; the trace loses, for each member that
-- was down, its first lost receipt and all its later events; each member that was down is at the fold of its receipts that
-- are left, with a table that gathers the survivors' tables and those of the checkpoints of the members that were down and
-- counts these as holders; and each channel with such an end is made again
pub record IsRecovery {S N : Type 0} (next : Next S N) (old new : GroupRecord S N) : Type 0 where
  pub rest : IsBroughtBack old new
  pub trace : IsEventCut (Stays (knowledge old)) old.trace new.trace
  pub folds : (m : ℕ) → m < old.config.members → IsDown (knowledge old) m → IsFold next new m
  pub gathered : (m : ℕ) → m < old.config.members → IsDown (knowledge old) m → (member new m).table ≡ recovery_table (knowledge old)
  pub made_again : (q p : ℕ) → IsDown (knowledge old) q ⊎ IsDown (knowledge old) p → IsMadeAgain new q p

-- the determinant is that of the next receipt of the member p, from another member of the group, and there is room for it
pub record IsNextReplay {S N : Type 0} (n p : ℕ) (m : MemberRecord S N) (d : Determinant) : Type 0 where
  pub to : d.to ≡ p
  pub rsn : d.rsn ≡ m.received + 1
  pub from : d.from < n
  pub other : d.from ≢ p
  pub room : m.received < 8192

-- these counts of the members of the set that are below n, in all
abbrev pub count_in : Members → (ℕ → ℕ) → ℕ → ℕ
count_in s count n = sum_below n (λ m. if set.contains s m then count m else 0)

-- whether the receipt is one that a member that is down replays: one beyond those of its checkpoint
abbrev pub is_replayed : {S N : Type 0} → GroupRecord S N → Determinant → Bool
is_replayed r d = set.contains r.down d.to && nat_lt (member_checkpoint r d.to).received d.rsn

-- whether the event is a receipt of the member whose determinant isn't in the table
abbrev pub is_lost : List Entry → ℕ → Mark → Bool
is_lost held m (Send from ssn to) = false
is_lost held m (Receipt to rsn from ssn) = to == m && not (is_held held (record { from = from; ssn = ssn; to = to; rsn = rsn }))

-- the events that come before the member's first lost receipt
abbrev pub before_lost : List Entry → List Mark → ℕ → List Mark
before_lost held trace m = take (position_or_len (is_lost held m) trace) trace

-- whether the event stays, by how many sends and receipts of the members of the set stay
abbrev pub stays_within : Members → (ℕ → ℕ) → (ℕ → ℕ) → Mark → Bool
stays_within s sends receipts (Send from ssn to) = not (set.contains s from) || nat_le ssn (sends from)
stays_within s sends receipts (Receipt to rsn from ssn) = not (set.contains s to) || nat_le rsn (receipts to)

-- whether the event stays, by how many receipts and sends the members of the set have after their replay
abbrev pub stays_by : {S N : Type 0} → Members → (ℕ → MemberRecord S N) → Mark → Bool
stays_by s work e = stays_within s (λ p. length (work p).log) (λ p. (work p).received) e

-- whether the event stays in a recovery: where its member is down, it comes before the member's first lost receipt
abbrev pub stays_in : {S N : Type 0} → GroupRecord S N → Mark → Bool
stays_in r e =
    let before = before_lost (recovery_table (knowledge r)) (marks r) in
    stays_within r.down (λ p. sends_of (before p) p) (λ p. receipts_of (before p) p) e

-- the trace that recovery leaves
abbrev pub recovered_trace : {S N : Type 0} → GroupRecord S N → List (Event N)
recovered_trace r = filter (λ e. stays_in r (mark_of e)) r.trace

-- messages from one member to another with these numbers and notes, all with the same entries
abbrev pub resent : {N : Type 0} → ℕ → ℕ → List Entry → List (ℕ × N) → List (Message N)
resent q p carried sends = map (λ s. record { from = q; to = p; ssn = s.0; note = s.1; carried = carried }) sends

-- what q sends to p again: the messages of its log beyond the last one that p received, each with what q passes on
abbrev pub resent_to : {S N : Type 0} → ℕ → ℕ → ℕ → MemberRecord S N → MemberRecord S N → List (Message N)
resent_to f q p from to = resent q p (piggybacked f from.table) (logged_beyond from.log p (last_from to q))

-- what q sends to p again, if one of the two is in the set
abbrev pub sent_again : {S N : Type 0} → ℕ → Members → (ℕ → MemberRecord S N) → ℕ → ℕ → List (Message N)
sent_again f s work q p = if set.contains s q || set.contains s p then resent_to f q p (work q) (work p) else []

-- the records while the members that are down replay: theirs are rebuilt, the survivors' are as they were
abbrev pub working : {S N : Type 0} → GroupRecord S N → List (MemberRecord S N) → ℕ → MemberRecord S N
working r rebuilt q = if set.contains r.down q then slice_index_or rebuilt q (blank r.outside) else member r q

-- each member that is down has a record that has come so far, from its checkpoint on, in its replay of the trace that
-- recovery leaves
pub record IsReplaying {S N : Type 0} (next : Next S N) (r : GroupRecord S N) (rebuilt : List (MemberRecord S N)) : Type 0 where
  pub size : length rebuilt ≡ r.config.members
  pub replayed : (p : ℕ) → p < r.config.members → IsDown (knowledge r) p → IsReplayed next r.config.members r.config.starts (recovered_trace r) p (slice_index_or rebuilt p (blank r.outside))
  pub begun : (p : ℕ) → p < r.config.members → IsDown (knowledge r) p → (member_checkpoint r p).received ≤ (slice_index_or rebuilt p (blank r.outside)).received

-- a member that is down waits for the message that it received next: the gathered tables find no such receipt, or the
-- sender has not sent the message again
abbrev pub IsWaiting : {S N : Type 0} → GroupRecord S N → List (MemberRecord S N) → ℕ → Type 0
IsWaiting r rebuilt p =
    (d : Determinant) → found p ((slice_index_or rebuilt p (blank r.outside)).received + 1) (recovery_table (knowledge r)) ≡ Some d → logged_note (working r rebuilt d.from).log d.ssn ≡ None

-- how many receipts were replayed: those that the members that are down have beyond their checkpoints
abbrev pub replayed_in : {S N : Type 0} → GroupRecord S N → List (MemberRecord S N) → ℕ
replayed_in r rebuilt = count_in r.down (λ p. (slice_index_or rebuilt p (blank r.outside)).received - (member_checkpoint r p).received) r.config.members

-- a group after the replay: the trace is cut, each member that was down has its rebuilt record with the gathered table, and
-- each channel with such an end has what its sender sends again
pub record IsRebuilt {S N : Type 0} (old new : GroupRecord S N) (replayed : List (MemberRecord S N)) : Type 0 where
  pub rest : IsBroughtBack old new
  pub trace : new.trace ≡ recovered_trace old
  pub rebuilt : (m : ℕ) → m < old.config.members → IsDown (knowledge old) m → member new m ≡ record (slice_index_or replayed m (blank old.outside)) { table = recovery_table (knowledge old) }
  pub resent : (q p : ℕ) → IsDown (knowledge old) q ⊎ IsDown (knowledge old) p → q < old.config.members → p < old.config.members
      → channel new q p ≡ resent_to old.config.f q p (member new q) (member new p)
