-- The record of a history, as a log: the history is gone through again on a new group, and what each step does is written as its members
-- would have written it.
use Rattle.std.specs.Prelude.{◌≡◌, ◌≢◌, ℕ, zero, suc, ◌+◌, ◌<◌, ◌≤◌, ◌==◌, ◌⊎◌, not, ◌&&◌, ◌||◌, Bool, true, false, List, [], ◌∷◌, ◌++◌, count_by, drop, filter, filter_map, flat_map, length, map, slice_get, slice_index, slice_set, sum_by, take, Option, Some, None, Result, Ok, Err, if◌then◌else◌}
use Rattle.std.specs.FinSet as set
use Rattle.fbl_trace.specs.declared.trace.Note.{Note}
use Rattle.fbl_trace.specs.declared.trace.Determinant.{Determinant}
use Rattle.fbl_trace.specs.declared.trace.Mark.{Mark}
use Rattle.fbl_trace.specs.declared.trace.Mark.TheVariants as mark
use Rattle.fbl_trace.specs.declared.trace.Event.{Event as TraceEvent}
use Rattle.fbl_trace.specs.Configs.{Settings}
use Rattle.fbl_trace.specs.Events.{mark_of, receipt_of}
use Rattle.fbl_trace.specs.Fold.{Next}
use Rattle.fbl_trace.specs.MemberSets.{Members, members_where}
use Rattle.fbl_table.specs.declared.entry.Entry.{Entry as TableEntry}
use Rattle.fbl_trace.specs.declared.dump.refusal.DumpRefusal.{DumpRefusal}
use Rattle.fbl_law.specs.Groups.{GroupRecord, member, member_checkpoint}
use Rattle.fbl_law.specs.GroupSteps.{IsCheckpoint, IsGroupStart}
use Rattle.fbl_group.specs.Checkpoints.{checkpoint_refusal}
use Rattle.fbl_group.specs.Deliveries.{Delivers, deliver_refusal}
use Rattle.fbl_group.specs.Strikes.{Recovers, Strikes, strike_refusal}
use Rattle.fbl_group.specs.declared.answers.Receipted.{Receipted}
use Rattle.fbl_group.specs.declared.answers.Recovered.{Recovered}
use Rattle.fbl_group.specs.declared.answers.Struck.{Struck}
use Rattle.fbl_history.specs.declared.column.Column.{Column}
use Rattle.fbl_history.specs.declared.column.Column.TheVariants.{Checkpoint, Receipt, Recovery, Send, Strike}
use Rattle.fbl_runs.specs.declared.control.ControlMessage.{ControlMessage}
use Rattle.fbl_runs.specs.declared.entry.Entry.{Entry}
use Rattle.fbl_runs.specs.declared.entry.Entry.TheVariants.{Event, Hold, LaterReceipt, Restart, Store, Tell, Told}
use Rattle.fbl_runs.specs.declared.run.RawLog.{RawLog}
use Rattle.fbl_runs.specs.Logs.{IsLog, IsLogBreach, RefusesLog, RunParts, parts_of_log}
use Rattle.fbl_history.specs.declared.record.RecordRefusal.{RecordRefusal}
use Rattle.fbl_history.specs.declared.record.RecordRefusal.TheVariants as faults
use Rattle.fbl_history.specs.declared.record.columns.Written.{Written}

-- ---- entries

-- sends and receipts as entries, a receipt as one of a message of life 0
abbrev pub event_entries : List (TraceEvent Note) → List Entry
event_entries events = map (λ e. Event (mark_of e)) events

-- the receipt of a message whose sender is in this life
abbrev pub receipt_entry : ℕ → Determinant → Entry
receipt_entry life d = if life == 0 then Event (receipt_of d) else LaterReceipt d life

-- the member holds, or stores, what the table has behind its first so many determinants
abbrev pub holds_from : ℕ → ℕ → List TableEntry → List Entry
holds_from member first table = map (λ e. Hold member e.det) (drop first table)

abbrev pub stores_from : ℕ → ℕ → List TableEntry → List Entry
stores_from member first table = map (λ e. Store member e.det) (drop first table)

-- the entries, and behind them a receipt, that its member holds what its table has behind its first so many determinants, and these sends
abbrev pub receipt_entries : List Entry → ℕ → Determinant → ℕ → List TableEntry → List (TraceEvent Note) → List Entry
receipt_entries entries life d held table sends = ((entries ++ receipt_entry life d ∷ []) ++ holds_from d.to held table) ++ event_entries sends

-- what there is of each of so many members, in order
abbrev pub each_member : {T : Type 0} → (ℕ → List T) → ℕ → List T
each_member of zero = []
each_member of (suc n) = each_member of n ++ of n

-- what the member tells each other one of these, of n members, under this number
abbrev pub messages_from : ℕ → ℕ → Members → ℕ → List ControlMessage
messages_from id from receivers n =
    each_member (λ to. if set.contains receivers to && not (to == from) then record { from = from; to = to; id = id } ∷ [] else []) n

-- what each of the senders, of n members, tells each other one of the receivers behind the entries, under a number that no earlier control
-- message has: how many entries there are
abbrev pub next_messages : ℕ → List Entry → Members → Members → List ControlMessage
next_messages n entries senders receivers =
    each_member (λ from. if set.contains senders from then messages_from (length entries) from receivers n else []) n

-- the message is from the one member to the other
abbrev pub is_between : ℕ → ℕ → ControlMessage → Bool
is_between from to message = message.from == from && message.to == to

-- it is another one
abbrev pub is_not_between : ℕ → ℕ → ControlMessage → Bool
is_not_between from to message = not (is_between from to message)

-- a control message that is told at once
abbrev pub told_at_once : ControlMessage → List Entry
told_at_once message = Tell message ∷ Told message ∷ []

-- the entries, and such messages, each told at once
abbrev pub round : ℕ → List Entry → Members → Members → List Entry
round n entries senders receivers = entries ++ flat_map told_at_once (next_messages n entries senders receivers)

-- the member is back in this life, with the receipts and the sends that the group has of it, and holds its table
abbrev pub back_entries : GroupRecord ℕ Note → ℕ → ℕ → List Entry
back_entries r life m =
    Restart (record { member = m; life = life; receipts = (member r m).received; sends = length (member r m).log }) ∷ holds_from m 0 (member r m).table

-- so are these, of n members, each in its life
abbrev pub restart_entries : GroupRecord ℕ Note → List ℕ → Members → ℕ → List Entry
restart_entries r lives members n = each_member (λ m. if set.contains members m then back_entries r (slice_index lives m) m else []) n

-- ---- a history gone through again

-- a group that has come so far, the life of each of its members, how many determinants of each member's table its checkpoint has, what
-- members told others when they were back and these are not told yet, and what is written
pub record Recorded : Type 0 where
  pub group : GroupRecord ℕ Note
  pub lives : List ℕ
  pub saved : List ℕ
  pub untold : List ControlMessage
  pub entries : List Entry

abbrev pub so_far : GroupRecord ℕ Note → Written → Recorded
so_far r w = record { group = r; lives = w.lives; saved = w.saved; untold = w.untold.items; entries = w.entries.items }

-- at first all are in life 0, and the sends of the starts are written
pub record IsRecordStart (new : Recorded) : Type 0 where
  pub lives : (m : ℕ) → slice_index new.lives m ≡ 0
  pub saved : (m : ℕ) → slice_index new.saved m ≡ 0
  pub untold : new.untold ≡ []
  pub entries : new.entries ≡ event_entries new.group.trace

-- the trace has got this receipt, and then these sends
pub record Makes (old new : GroupRecord ℕ Note) (receipt : Mark) (sends : List (TraceEvent Note)) : Type 0 where
  pub event : TraceEvent Note
  pub made : drop (length old.trace) new.trace ≡ event ∷ sends
  pub is : mark_of event ≡ receipt

-- a delivery makes the receipt. First its member is told what is untold of its sender. Then the receipt is written, with the life of its
-- sender; behind it that its member holds what its table has got; and then the sends of its step
pub record Receives (next : Next ℕ Note) (old : Recorded) (d : Determinant) (new : Recorded) : Type 0 where
  pub answer : Receipted ℕ
  pub delivers : Delivers next old.group new.group d.to d.from answer
  pub sends : List (TraceEvent Note)
  pub makes : Makes old.group new.group (receipt_of d) sends
  pub lives : new.lives ≡ old.lives
  pub saved : new.saved ≡ old.saved
  pub untold : new.untold ≡ filter (is_not_between d.from d.to) old.untold
  pub entries : new.entries
      ≡ receipt_entries (old.entries ++ map Told (filter (is_between d.from d.to) old.untold)) (slice_index old.lives d.from) d
      (length (member old.group d.to).table) (member new.group d.to).table sends

-- a strike writes nothing
pub record IsStruck (next : Next ℕ Note) (old : Recorded) (members : Members) (new : Recorded) : Type 0 where
  pub answer : Struck
  pub strikes : Strikes next old.group new.group members answer
  pub lives : new.lives ≡ old.lives
  pub saved : new.saved ≡ old.saved
  pub untold : new.untold ≡ old.untold
  pub entries : new.entries ≡ old.entries

-- the members are in their next lives, and of the tables with which they are back their checkpoints count as having nothing: the lives, and
-- how much of their tables checkpoints have, before and after
pub record AreBack (members : Members) (before had after has : List ℕ) : Type 0 where
  pub lives : (m : ℕ) → m < 16 → slice_index after m ≡ (if set.contains members m then slice_index before m + 1 else slice_index before m)
  pub saved : (m : ℕ) → m < 16 → slice_index has m ≡ (if set.contains members m then 0 else slice_index had m)

-- a recovery gathers something of the member: it is up, or has had a receipt at its checkpoint
abbrev pub is_gathered_from : GroupRecord ℕ Note → ℕ → Bool
is_gathered_from r m = not (set.contains r.down m) || not ((member_checkpoint r m).received == 0)

abbrev pub sources : GroupRecord ℕ Note → Members
sources r = members_where r.config.members (is_gathered_from r)

-- a recovery: all of whom something is gathered tell each member that is down something; those that were down are back, and tell one another
-- so, and then the survivors. A survivor is told it before it receives a message from them: what they send afterwards, again too, comes
-- behind all of it
pub record Restores (next : Next ℕ Note) (old new : Recorded) : Type 0 where
  pub answer : Recovered
  pub recovers : Recovers next old.group new.group answer
  pub back : AreBack old.group.down old.lives old.saved new.lives new.saved
  pub mid : List Entry
  pub restarts : mid
      ≡ round old.group.config.members
      (round old.group.config.members old.entries (sources old.group) old.group.down ++ restart_entries new.group new.lives old.group.down new.group.config.members)
      old.group.down old.group.down
  pub last : List ControlMessage
  pub survivors : last ≡ next_messages old.group.config.members mid old.group.down (set.difference (sources old.group) old.group.down)
  pub entries : new.entries ≡ mid ++ map Tell last
  pub untold : new.untold ≡ old.untold ++ last

-- a checkpoint of the member stores what its table has, and its older checkpoint has not
pub record Saves (old : Recorded) (m : ℕ) (new : Recorded) : Type 0 where
  pub checkpoint : IsCheckpoint old.group new.group m
  pub lives : new.lives ≡ old.lives
  pub saved : new.saved ≡ slice_set old.saved m (length (member new.group m).table)
  pub untold : new.untold ≡ old.untold
  pub entries : new.entries ≡ old.entries ++ stores_from m (slice_index old.saved m) (member new.group m).table

-- what the column is of is done again, and written. A send is made with the receipt before it, or is that of a start
abbrev pub Records : Next ℕ Note → Recorded → Column → Recorded → Type 0
Records next old (Send from ssn to undone) new = new ≡ old
Records next old (Receipt to rsn from ssn state undone) new = Receives next old (record { from = from; to = to; ssn = ssn; rsn = rsn }) new
Records next old (Strike members) new = IsStruck next old members new
Records next old (Recovery replays) new = Restores next old new
Records next old (Checkpoint m) new = Saves old m new

-- so are those of these columns, in order
abbrev pub RecordsAll : Next ℕ Note → Recorded → List Column → Recorded → Type 0
RecordsAll next old [] new = new ≡ old
RecordsAll next old (column ∷ columns) new = (mid : Recorded) × Records next old column mid × RecordsAll next mid columns new

-- ---- records

-- the send or receipt that the column is of, if it is not undone
abbrev pub standing_mark : Column → Option Mark
standing_mark (Send from ssn to false) = Some (mark.Send from ssn to)
standing_mark (Receipt to rsn from ssn state false) = Some (mark.Receipt to rsn from ssn)
standing_mark _ = None

-- the log is what is written of the history of a group with this behaviour and these parameters: a new group goes through all of it; at
-- its end its trace has the events that are not undone, and those who are down are in the strike set
pub record IsRecordOf (next : Next ℕ Note) (config : Settings Note) (columns : List Column) (log : RawLog) : Type 0 where
  pub first : Recorded
  pub last : Recorded
  pub start : IsGroupStart next config first.group
  pub begun : IsRecordStart first
  pub all : RecordsAll next first columns last
  pub trace : filter_map standing_mark columns ≡ map mark_of last.group.trace
  pub members : log.members ≡ config.members
  pub f : log.f ≡ config.f
  pub entries : log.entries.items ≡ last.entries
  pub strike : log.strike ≡ last.group.down

-- ---- faults

-- memory ran out, or this holds
abbrev pub IsStopped : Type 0 → RecordRefusal → Type 0
IsStopped Refused faults.Memory = Unit {0}
IsStopped Refused faults.OtherHistory = Refused
IsStopped Refused _ = ⊥

-- the group doesn't make the receipt
abbrev pub RefusesReceipt : Next ℕ Note → GroupRecord ℕ Note → Determinant → Type 0
RefusesReceipt next r d =
    (deliver_refusal next r d.to d.from ≢ None)
    ⊎ ((new : GroupRecord ℕ Note) × (answer : Receipted ℕ) × (other : Mark) × (sends : List (TraceEvent Note))
    × Delivers next r new d.to d.from answer × Makes r new other sends × (other ≢ receipt_of d))

-- the group doesn't do what the column is of
abbrev pub Refuses : Next ℕ Note → GroupRecord ℕ Note → Column → Type 0
Refuses next r (Send from ssn to undone) = ⊥
Refuses next r (Receipt to rsn from ssn state undone) = RefusesReceipt next r (record { from = from; to = to; ssn = ssn; rsn = rsn })
Refuses next r (Strike members) = strike_refusal r members ≢ None
Refuses next r (Recovery replays) = r.down ≡ set.empty
Refuses next r (Checkpoint m) = checkpoint_refusal r m ≢ None

-- it goes through the columns to one of which it doesn't do what that is of
abbrev pub StopsIn : Next ℕ Note → Recorded → List Column → Type 0
StopsIn next old columns =
    (place : ℕ) × (column : Column) × (mid : Recorded) × (slice_get columns place ≡ Some column) × RecordsAll next old (take place columns) mid
    × Refuses next mid.group column

-- or it goes through all of them, and then its trace has other events. Of no history of a play is one of the two known
abbrev pub IsOfAnother : Next ℕ Note → Settings Note → List Column → Type 0
IsOfAnother next config columns =
    (first : Recorded) × IsGroupStart next config first.group × IsRecordStart first
    × (StopsIn next first columns ⊎ ((last : Recorded) × RecordsAll next first columns last × (filter_map standing_mark columns ≢ map mark_of last.group.trace)))

-- how many members the column brings back
abbrev pub restarts_of : Column → ℕ
restarts_of (Recovery replays) = length replays.items
restarts_of _ = 0

-- the column is of a send or a receipt
abbrev pub is_mark : Column → Bool
is_mark (Send from ssn to undone) = true
is_mark (Receipt to rsn from ssn state undone) = true
is_mark _ = false

-- a log has no room for so many restarts, or sends and receipts
abbrev pub HasNoRoom : List Column → RecordRefusal → Type 0
HasNoRoom columns faults.Restarts = 8 < sum_by restarts_of columns
HasNoRoom columns faults.Marks = 8192 < count_by is_mark columns
HasNoRoom columns _ = ⊥

-- there is room, or this is the fault
abbrev pub IsRoomFault : List Column → Option RecordRefusal → Type 0
IsRoomFault columns None = (sum_by restarts_of columns ≤ 8) × (count_by is_mark columns ≤ 8192)
IsRoomFault columns (Some fault) = HasNoRoom columns fault

-- the record breaks a rule of logs. Of no record is that known
abbrev pub IsLogFault : RunParts → RecordRefusal → Type 0
IsLogFault run (faults.Refused breach) = (refusal : DumpRefusal) × RefusesLog run refusal × IsLogBreach run refusal breach
IsLogFault run faults.Memory = Unit {0}
IsLogFault run _ = ⊥

-- the history has no record in a log, for this reason
abbrev pub HasNoRecord : Next ℕ Note → Settings Note → List Column → RecordRefusal → Type 0
HasNoRecord next config columns (faults.Refused breach) =
    (raw : RawLog) × IsRecordOf next config columns raw × IsLogFault (parts_of_log raw) (faults.Refused breach)
HasNoRecord next config columns faults.OtherHistory = IsOfAnother next config columns
HasNoRecord next config columns faults.Memory = ⊥
HasNoRecord next config columns fault = HasNoRoom columns fault

-- the answer is the record of the history, which is a log; or the history has none, for this reason; or there was no memory
abbrev pub IsRecord : Next ℕ Note → Settings Note → List Column → Result RunParts RecordRefusal → Type 0
IsRecord next config columns (Ok run) = (raw : RawLog) × IsRecordOf next config columns raw × (run ≡ parts_of_log raw) × IsLog run
IsRecord next config columns (Err faults.Memory) = Unit {0}
IsRecord next config columns (Err fault) = HasNoRecord next config columns fault
