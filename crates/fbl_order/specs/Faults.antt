-- Why what is recorded of a run has no order, or is refused in each.
use Rattle.std.specs.Prelude.{ℕ, ◌≡◌, ◌≢◌, ◌≤◌, ◌+◌, ◌-◌, ◌⊎◌, Bool, true, false, List, length, Some, drop, map, slice_get, slice_index_or, take, AllPairs}
use Rattle.fbl_trace.specs.declared.fault.Breach.{Breach}
use Rattle.fbl_trace.specs.declared.fault.Breach.TheVariants as breach
use Rattle.fbl_trace.specs.declared.dump.refusal.DumpRefusal.{DumpRefusal}
use Rattle.fbl_trace.specs.declared.dump.refusal.DumpRefusal.TheVariants.{BadEvent, BadF, BadMembers, Memory}
use Rattle.fbl_trace.specs.declared.fault.EventRule.TheVariants.{TooMany, NothingInFlight}
use Rattle.fbl_trace.specs.declared.trace.Mark.{Mark}
use Rattle.fbl_trace.specs.Dumps.{Parts, RefusesDump, IsDumpBreach}
use Rattle.fbl_trace.specs.Breaches.{BreaksEvent}
use Rattle.fbl_trace.specs.Configs.{BreaksGroup, FAllowed, IsFirstBreach, MembersAllowed}
use Rattle.fbl_trace.specs.declared.config.GroupRule.TheVariants as group_rule
use Rattle.fbl_trace.specs.declared.fault.EventFault.{EventFault}
use Rattle.fbl_trace.specs.Events.{destination_of, send_of, source_of}
use Rattle.fbl_runs.specs.declared.control.ControlMessage.{ControlMessage}
use Rattle.fbl_runs.specs.declared.entry.Entry.{Entry}
use Rattle.fbl_runs.specs.declared.entry.Entry.TheVariants.{Event, Tell, Told}
use Rattle.fbl_runs.specs.declared.entry.Restart as restart
use Rattle.fbl_runs.specs.declared.fault.ControlRule.TheVariants.{NotTold}
use Rattle.fbl_runs.specs.declared.fault.LifeFault.{LifeFault}
use Rattle.fbl_runs.specs.declared.fault.LifeRule.TheVariants.{TooManyRestarts}
use Rattle.fbl_runs.specs.declared.fault.LifeRule.TheVariants as life_rule
use Rattle.fbl_runs.specs.declared.fault.LogBreach.{LogBreach}
use Rattle.fbl_runs.specs.declared.fault.LogBreach.TheVariants.{Life, Record, Trace}
use Rattle.fbl_runs.specs.ControlMessages.{BreaksControl, Has}
use Rattle.fbl_runs.specs.Entries.{entry_member, log_of, mark_in, marks, restart_in}
use Rattle.fbl_runs.specs.Logs.{IsLogBreach, RunParts, RefusesLog}
use Rattle.fbl_runs.specs.Rules.{BreaksLife, have_lives, restarts}
use Rattle.fbl_order.specs.Known.{LacksInLife}
use Rattle.fbl_order.specs.Orders.{ArePlaces, CanCome, HasNoOrder, IsFurthest, IsOrder, IsOrderOfEntries, as_entries, with_entries, with_events}
use Rattle.fbl_order.specs.declared.fault.Obstacle.{Obstacle}
use Rattle.fbl_order.specs.declared.fault.Obstacle.TheVariants.{Rule, NeverSent, Received, Waits}
use Rattle.fbl_order.specs.declared.fault.Obstacle.TheVariants as obstacle
use Rattle.fbl_order.specs.declared.fault.OrderFault.{OrderFault}
use Rattle.fbl_order.specs.declared.fault.OrderFault.TheVariants.{NoOrder, Refused}
use Rattle.fbl_order.specs.declared.fault.Stuck.{Stuck}

-- the place has the member's first entry that is not in the run
abbrev pub IsFirstAfter : List Entry → List Entry → ℕ → ℕ → Type 0
IsFirstAfter entries run member place =
    (e : Entry) × (slice_get entries place ≡ Some e) × (entry_member e ≡ member) × (log_of run member ≡ log_of (take place entries) member)

-- the second takes the message that the first sends, or is told what the first tells
abbrev pub Passes : Entry → Entry → Type 0
Passes sent e =
    ((s : Mark) × (r : Mark) × (sent ≡ Event s) × (mark_in e ≡ Some r) × (send_of r ≡ Some s)) ⊎ ((m : ControlMessage) × (sent ≡ Tell m) × (e ≡ Told m))

-- behind the run there is no message for the entry: none is in flight on the channel of the receipt, or nobody told what its member is told
abbrev pub LacksInTrace : ℕ → List Entry → Entry → Type 0
LacksInTrace n run (Told m) = BreaksControl n run (Told m) NotTold
LacksInTrace n run e = (m : Mark) × (mark_in e ≡ Some m) × BreaksEvent n (marks run) m (NothingInFlight (source_of m) (destination_of m))

abbrev pub LacksMessage : Bool → ℕ → List Entry → Entry → Type 0
LacksMessage false = LacksInTrace
LacksMessage true = LacksInLife

-- the entry takes the message that this one sends, and none is there for it behind the run
abbrev pub Misses : Bool → ℕ → List Entry → Entry → Entry → Type 0
Misses lived n run e sent = LacksMessage lived n run e × Passes sent e

-- the run has all entries of the member
abbrev pub HasAllOf : List Entry → List Entry → ℕ → Type 0
HasAllOf entries run member = log_of run member ≡ log_of entries member

-- the obstacle keeps the entry from coming behind the run. In a log with restarts a message may be missing although its sender sent it: in
-- another life
abbrev pub Hinders : Bool → ℕ → List Entry → List Entry → Entry → Obstacle → Type 0
Hinders false n entries run e (Rule rule) = (m : Mark) × (mark_in e ≡ Some m) × BreaksEvent n (marks run) m rule × ((from to : ℕ) → rule ≢ NothingInFlight from to)
Hinders false n entries run e (obstacle.Control rule) = BreaksControl n run e rule × (rule ≢ NotTold)
Hinders true n entries run e (obstacle.Life rule) =
    BreaksLife n run e rule × ((sent : Entry) → Misses true n run e sent → HasAllOf entries run (entry_member sent))
Hinders lived n entries run e (NeverSent sent) = Misses lived n run e sent × ¬ (Has entries sent)
Hinders false n entries run e Received = (sent : Entry) × Misses false n run e sent × Has run sent
Hinders false n entries run e (Waits place) =
    (sent : Entry) × Misses false n run e sent × Has entries sent × ¬ (Has run sent) × IsFirstAfter entries run (entry_member sent) place
Hinders true n entries run e (Waits place) = (sent : Entry) × Misses true n run e sent × Has entries sent × IsFirstAfter entries run (entry_member sent) place
Hinders lived n entries run e obstacle = ⊥

-- the run has what the entry's member did before it, and the obstacle keeps it from coming next
pub record IsStuck (n : ℕ) (entries run : List Entry) (stuck : Stuck) : Type 0 where
  pub here : slice_get entries stuck.place ≡ Some stuck.entry
  pub next : log_of run (entry_member stuck.entry) ≡ log_of (take stuck.place entries) (entry_member stuck.entry)
  pub obstacle : Hinders (have_lives entries) n entries run stuck.entry stuck.obstacle

-- one of the entries stands at the place
abbrev pub StandsIn : List Stuck → ℕ → Type 0
StandsIn chain place = (k : ℕ) × (s : Stuck) × (slice_get chain k ≡ Some s) × (s.place ≡ place)

-- the first of the entries stands at the place
abbrev pub StartsAt : List Stuck → ℕ → Type 0
StartsAt chain place = (s : Stuck) × (slice_get chain 0 ≡ Some s) × (s.place ≡ place)

-- each of the entries waits for the next one
pub record AreLinked (n : ℕ) (entries run : List Entry) (chain : List Stuck) : Type 0 where
  pub each : (k : ℕ) (s : Stuck) → slice_get chain k ≡ Some s → IsStuck n entries run s
  pub follows : (k : ℕ) (s t : Stuck) → slice_get chain k ≡ Some s → slice_get chain (k + 1) ≡ Some t → s.obstacle ≡ Waits t.place
  pub apart : AllPairs (λ a b. a ≢ b) (map (λ s. s.place) chain)

-- the chain's last entry, which has the obstacle, waits for the one with the number; or it has the number, and waits for none
abbrev pub ClosesAt : List Stuck → Obstacle → ℕ → Type 0
ClosesAt chain (Waits place) number = (s : Stuck) × (slice_get chain number ≡ Some s) × (s.place ≡ place)
ClosesAt chain obstacle number = number ≡ length chain - 1

-- the entries are what closes the chain that starts at the place: its last entry, or a circle
pub record IsEndOfChain (n : ℕ) (entries run : List Entry) (first : ℕ) (found : List Stuck) : Type 0 where
  pub chain : List Stuck
  pub linked : AreLinked n entries run chain
  pub starts : StartsAt chain first
  pub last : Stuck
  pub is_last : slice_get chain (length chain - 1) ≡ Some last
  pub number : ℕ
  pub closes : ClosesAt chain last.obstacle number
  pub end : found ≡ drop number chain

-- no order obeys the rules, since the first of the entries that no part of an order has waits in vain, for these in the end
pub record ShowsNoOrder (n : ℕ) (entries : List Entry) (found : List Stuck) : Type 0 where
  pub none : HasNoOrder n entries
  pub run : List Entry
  pub furthest : IsFurthest n entries run
  pub place : ℕ
  pub first : IsFirstBreach (CanCome n entries) place
  pub waits : IsEndOfChain n entries run place found

-- the fault is of the first send or receipt with 8192 others before it
abbrev pub IsOneTooMany : List Entry → EventFault → Type 0
IsOneTooMany entries fault =
    ((e : Entry) × (slice_get entries fault.place ≡ Some e) × (mark_in e ≡ Some fault.event))
    × (length (marks (take fault.place entries)) ≡ 8192) × (fault.rule ≡ TooMany)

-- in a log with restarts it is of such an event, or of the first restart with 8 others before it
abbrev pub IsOneLifeTooMany : List Entry → LifeFault → Type 0
IsOneLifeTooMany entries fault =
    (slice_get entries fault.place ≡ Some fault.entry)
    × (((m : Mark) × (mark_in fault.entry ≡ Some m) × (length (marks (take fault.place entries)) ≡ 8192) × (fault.rule ≡ life_rule.TooMany))
    ⊎ ((r : restart.Restart) × (restart_in fault.entry ≡ Some r) × (restarts (take fault.place entries) ≡ 8) × (fault.rule ≡ TooManyRestarts)))

-- the sends and receipts are at most 8192, and the restarts at most 8
abbrev pub AreFew : Bool → List Entry → Type 0
AreFew lived entries = (length (marks entries) ≤ 8192) × (lived ≡ true → restarts entries ≤ 8)

-- the fault is of one that is too many
abbrev pub RefusesMany : List Entry → OrderFault → Type 0
RefusesMany entries (Refused (BadEvent place) (Trace (breach.Event fault))) = (fault.place ≡ place) × (have_lives entries ≡ false) × IsOneTooMany entries fault
RefusesMany entries (Refused (BadEvent place) (Life fault)) = (fault.place ≡ place) × (have_lives entries ≡ true) × IsOneLifeTooMany entries fault
RefusesMany entries fault = ⊥

-- the entries have no order, because of these, or since their sends and receipts, or their restarts, are too many; or memory ran out
abbrev pub RefusesOrder : ℕ → List Entry → OrderFault → Type 0
RefusesOrder n entries (NoOrder found) = ShowsNoOrder n entries found.items
RefusesOrder n entries (Refused Memory (Trace breach.Memory)) = Unit {0}
RefusesOrder n entries fault = HasNoOrder n entries × RefusesMany entries fault

-- no group has these numbers, for this reason
abbrev pub RefusesGroup : ℕ → ℕ → OrderFault → Type 0
RefusesGroup members f (Refused BadMembers (Trace (breach.Members other))) = BreaksGroup members f group_rule.Members × (other ≡ members)
RefusesGroup members f (Refused BadF (Trace (breach.F given of))) = BreaksGroup members f group_rule.F × (given ≡ f) × (of ≡ members)
RefusesGroup members f fault = ⊥

-- ---- dumps

-- the dump with its events in an order is refused
pub record RefusesDumpInOrder (dump : Parts) (fault : OrderFault) : Type 0 where
  pub ordered : List Mark
  pub order : IsOrder dump.members dump.events ordered
  pub refusal : DumpRefusal
  pub broken : Breach
  pub refuses : RefusesDump (with_events ordered dump) refusal
  pub breaks : IsDumpBreach (with_events ordered dump) refusal broken
  pub given : fault ≡ Refused refusal (Trace broken)

-- no group has the numbers; or one has them, and the events have no order, or the dump is refused with them in one
abbrev pub RefusesUnordered : Parts → OrderFault → Type 0
RefusesUnordered dump fault =
    RefusesGroup dump.members dump.f fault
    ⊎ ((MembersAllowed dump.members × FAllowed dump.members dump.f)
    × (RefusesOrder dump.members (as_entries dump.events) fault ⊎ RefusesDumpInOrder dump fault))

-- ---- logs

-- the place at which what has the number was given, where the list has it at that number
abbrev pub place_given : List ℕ → ℕ → ℕ
place_given places number = slice_index_or places number number

-- the refusal of entries that were given at these places: an entry that breaks a rule is named where it was given
abbrev pub record_given : List ℕ → DumpRefusal → LogBreach → OrderFault
record_given places refusal (Record fault) =
    let place = place_given places fault.place in Refused (BadEvent place) (Record (record fault { place = place }))
record_given places refusal (Life fault) =
    let place = place_given places fault.place in Refused (BadEvent place) (Life (record fault { place = place }))
record_given places refusal (Trace (breach.Event fault)) =
    let place = place_given places fault.place in Refused (BadEvent place) (Trace (breach.Event (record fault { place = place })))
record_given places refusal broken = Refused refusal broken

-- the log with its entries in an order is refused
pub record RefusesLogInOrder (log : RunParts) (fault : OrderFault) : Type 0 where
  pub ordered : List Entry
  pub order : IsOrderOfEntries log.members log.entries ordered
  pub places : List ℕ
  pub are_places : ArePlaces log.entries ordered places
  pub refusal : DumpRefusal
  pub broken : LogBreach
  pub refuses : RefusesLog (with_entries ordered log) refusal
  pub breaks : IsLogBreach (with_entries ordered log) refusal broken
  pub given : fault ≡ record_given places refusal broken

-- no group has the numbers; or one has them, and the entries have no order, or the log is refused with them in one
abbrev pub RefusesUnorderedLog : RunParts → OrderFault → Type 0
RefusesUnorderedLog log fault =
    RefusesGroup log.members log.f fault
    ⊎ ((MembersAllowed log.members × FAllowed log.members log.f) × (RefusesOrder log.members log.entries fault ⊎ RefusesLogInOrder log fault))

-- ---- logs whose entries were put in another order before

-- the places at which what is stuck, and that for which it waits, were given
abbrev pub obstacle_given : List ℕ → Obstacle → Obstacle
obstacle_given places (Waits place) = Waits (place_given places place)
obstacle_given places obstacle = obstacle

abbrev pub stuck_given : List ℕ → Stuck → Stuck
stuck_given places stuck =
    record { place = place_given places stuck.place; entry = stuck.entry; obstacle = obstacle_given places stuck.obstacle }

-- the second fault is the first, with the places at which its entries were given
abbrev pub IsFaultGiven : List ℕ → OrderFault → OrderFault → Type 0
IsFaultGiven places (NoOrder found) (NoOrder named) = named.items ≡ map (stuck_given places) found.items
IsFaultGiven places (Refused refusal broken) fault = fault ≡ record_given places refusal broken
IsFaultGiven places found fault = ⊥

-- the log, whose entries were given at these places, is refused; or memory ran out
abbrev pub RefusesGiven : RunParts → List ℕ → OrderFault → Type 0
RefusesGiven log places fault =
    (fault ≡ Refused Memory (Trace breach.Memory)) ⊎ ((found : OrderFault) × RefusesUnorderedLog log found × IsFaultGiven places found fault)
