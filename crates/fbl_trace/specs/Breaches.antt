-- Which rule a configuration, a dump or a plan of strikes breaks, and which entries of a plan are bad. Of several rules the first in the
-- order given here is named.
use Rattle.std.specs.Prelude.{◌≡◌, ◌≢◌, ◌⊎◌, ℕ, ◌+◌, ◌<◌, ◌≤◌, true, false, List, length, take, Option, Some, None, slice_get, ◌∷◌, map, slice_index, slice_index_or}
use Rattle.std.specs.Ordering.{nat_cmp}
use Rattle.std.specs.FinSet as set
use Rattle.fbl_trace.specs.declared.trace.Note.{Note}
use Rattle.fbl_trace.specs.declared.trace.Start.{Start}
use Rattle.fbl_trace.specs.declared.trace.Mark.{Mark}
use Rattle.fbl_trace.specs.declared.trace.Mark.TheVariants.{Send, Receipt}
use Rattle.fbl_trace.specs.declared.config.ConfigRefusal.{ConfigRefusal}
use Rattle.fbl_trace.specs.declared.config.ConfigRefusal.TheVariants as refusal
use Rattle.fbl_trace.specs.declared.fault.Outsider.{Outsider}
use Rattle.fbl_trace.specs.declared.fault.Breach.{Breach}
use Rattle.fbl_trace.specs.declared.fault.Breach.TheVariants as breach
use Rattle.fbl_trace.specs.declared.fault.StartRule.{StartRule}
use Rattle.fbl_trace.specs.declared.fault.StartRule.TheVariants as start_rule
use Rattle.fbl_trace.specs.declared.fault.EventRule.{EventRule}
use Rattle.fbl_trace.specs.declared.fault.EventRule.TheVariants as event_rule
use Rattle.fbl_trace.specs.declared.fault.EventFault.{EventFault}
use Rattle.fbl_trace.specs.Configs.{Settings}
use Rattle.fbl_trace.specs.Events.{At, destination_of, number_of, source_of}
use Rattle.fbl_trace.specs.Rules.{sends_of, receipts_of, in_flight}
use Rattle.fbl_trace.specs.MemberSets.{AllBelow}
use Rattle.fbl_trace.specs.declared.strike.Strike.{Strike}
use Rattle.fbl_trace.specs.declared.fault.EntryRule.{EntryRule}
use Rattle.fbl_trace.specs.declared.fault.EntryRule.TheVariants.{TooMany, NotLater, Nobody, TooManyMembers, Outside}
use Rattle.fbl_trace.specs.declared.fault.PlanFault.{PlanFault}

-- ---- members outside a group

-- the member is named as one outside a group of n
abbrev pub IsOutside : ℕ → ℕ → Outsider → Type 0
IsOutside n member outsider = (outsider.member ≡ member) × (outsider.members ≡ n) × (n ≤ member)

-- the first of a message's ends that is outside a group of n
abbrev pub IsEndOutside : ℕ → ℕ → ℕ → Outsider → Type 0
IsEndOutside n from to outsider = IsOutside n from outsider ⊎ ((from < n) × IsOutside n to outsider)

-- the least member of the set that is outside a group of n
abbrev pub IsLeastOutside : set.FinSet nat_cmp → ℕ → Outsider → Type 0
IsLeastOutside s n outsider = (set.contains s outsider.member ≡ true) × IsOutside n outsider.member outsider × ((k : ℕ) → n ≤ k → k < outsider.member → set.contains s k ≡ false)

-- ---- starts and configurations

-- the start breaks this rule in a group of n
abbrev pub BreaksStart : ℕ → Start Note → StartRule → Type 0
BreaksStart n start (start_rule.Outside outsider) = IsEndOutside n start.from start.to outsider
BreaksStart n start start_rule.ToItself = (start.from < n) × (start.to < n) × (start.from ≡ start.to)
BreaksStart n start (start_rule.TooManyHops hops) = (start.from < n) × (start.to < n) × (start.from ≢ start.to) × (hops ≡ start.note.hops) × (15 < hops)

-- this is what the parameters are refused for
abbrev pub IsConfigBreach : Settings Note → ConfigRefusal → Breach → Type 0
IsConfigBreach c refusal.BadMembers (breach.Members members) = members ≡ c.members
IsConfigBreach c refusal.BadF (breach.F f members) = (f ≡ c.f) × (members ≡ c.members)
IsConfigBreach c refusal.BadLimit (breach.Limit limit) = limit ≡ c.limit
IsConfigBreach c refusal.TooManyStarts (breach.Starts starts) = starts ≡ length c.starts
IsConfigBreach c (refusal.BadStart place) (breach.Start at start rule) = (at ≡ place) × (slice_get c.starts place ≡ Some start) × BreaksStart c.members start rule
IsConfigBreach c refusal.LimitBelowStarts (breach.LimitBelowStarts limit starts) = (limit ≡ c.limit) × (starts ≡ length c.starts)
IsConfigBreach c refusal.Memory breach.Memory = Unit {0}
IsConfigBreach c _ _ = ⊥

-- ---- events

-- which of its member's sends, or receipts, an event is behind the trace
abbrev pub next_number : List Mark → Mark → ℕ
next_number trace (Send from ssn to) = sends_of trace from + 1
next_number trace (Receipt to rsn from ssn) = receipts_of trace to + 1

-- the first message in flight from the event's source to its destination
abbrev pub first_in_flight : List Mark → Mark → Option ℕ
first_in_flight trace e = slice_get (in_flight trace (source_of e) (destination_of e)) 0

-- the ends of the event's message are two members of a group of n
abbrev pub AreEndsAllowed : ℕ → Mark → Type 0
AreEndsAllowed n e = (source_of e < n) × (destination_of e < n) × (source_of e ≢ destination_of e)

-- a receipt takes this message, and not another
abbrev pub TakesMessage : Mark → Option ℕ → Type 0
TakesMessage (Send from ssn to) first = Unit {0}
TakesMessage (Receipt to rsn from ssn) first = first ≡ Some ssn

-- the event breaks no rule in a group of n, where its number has to be `next` and a receipt's message the first in flight
abbrev pub FitsEvent : ℕ → Mark → ℕ → Option ℕ → Type 0
FitsEvent n e next first = AreEndsAllowed n e × (number_of e ≡ next) × TakesMessage e first

-- the event breaks this rule in a group of n, where its number has to be `next` and a receipt's message the first in flight
abbrev pub Breaks : ℕ → Mark → ℕ → Option ℕ → EventRule → Type 0
Breaks n e next first event_rule.TooMany = ⊥
Breaks n e next first (event_rule.Outside outsider) = IsEndOutside n (source_of e) (destination_of e) outsider
Breaks n e next first event_rule.ToItself = (source_of e < n) × (destination_of e < n) × (source_of e ≡ destination_of e)
Breaks n e next first (event_rule.WrongNumber wanted) = AreEndsAllowed n e × (wanted ≡ next) × (number_of e ≢ next)
Breaks n e next first (event_rule.NothingInFlight from to) = AreEndsAllowed n e × (number_of e ≡ next) × (from ≡ source_of e) × (to ≡ destination_of e) × (first ≡ None) × ¬ (TakesMessage e first)
Breaks n e next first (event_rule.OtherInFlight from to wanted) =
    AreEndsAllowed n e × (number_of e ≡ next) × (from ≡ source_of e) × (to ≡ destination_of e) × (first ≡ Some wanted) × ¬ (TakesMessage e first)

-- the event breaks this rule in a group of n behind the trace
abbrev pub BreaksEvent : ℕ → List Mark → Mark → EventRule → Type 0
BreaksEvent n trace e event_rule.TooMany = 8192 ≤ length trace
BreaksEvent n trace e rule = (length trace < 8192) × Breaks n e (next_number trace e) (first_in_flight trace e) rule

-- the event at the fault's place is the fault's, and breaks its rule behind those before it
abbrev pub IsEventFault : ℕ → List Mark → EventFault → Type 0
IsEventFault n trace fault = At trace fault.place fault.event × BreaksEvent n (take fault.place trace) fault.event fault.rule

-- ---- plans of strikes

-- the numbers of receipts at which the plan strikes
abbrev pub numbers : List Strike → List ℕ
numbers plan = map (λ s. s.at) plan

-- the set that the entry at a place strikes
abbrev pub set_at : List Strike → ℕ → set.FinSet nat_cmp
set_at plan place = slice_index_or (map (λ s. s.set) plan) place set.empty

-- the set may be struck: it has a member, at most f of them, and each is below n
abbrev pub MayBeStruck : {N : Type 0} → Settings N → set.FinSet nat_cmp → Type 0
MayBeStruck config s = (1 ≤ set.len s) × (set.len s ≤ config.f) × AllBelow s config.members

-- the number of the entry before the one at a place; 0 before the first
abbrev pub number_before : List Strike → ℕ → ℕ
number_before plan place = slice_index (0 ∷ numbers plan) place

-- the entry stands at place 64 or later, its number isn't greater than the one before, or its set may not be struck
abbrev pub IsBad : {N : Type 0} → List Strike → Settings N → ℕ → Type 0
IsBad plan config place = (64 ≤ place) ⊎ (slice_index (numbers plan) place ≤ number_before plan place) ⊎ ¬ (MayBeStruck config (set_at plan place))

-- the first bad entry stands at the place
abbrev pub IsFirstBad : {N : Type 0} → List Strike → Settings N → ℕ → Type 0
IsFirstBad plan config place = (place < length plan) × IsBad plan config place × ((k : ℕ) → k < place → ¬ (IsBad plan config k))

-- no entry is bad
abbrev pub IsPlan : {N : Type 0} → List Strike → Settings N → Type 0
IsPlan plan config = (k : ℕ) → k < length plan → ¬ (IsBad plan config k)

-- the entry at the place breaks this rule, behind one with the number; of several the first in this order
abbrev pub BreaksEntry : {N : Type 0} → Settings N → ℕ → ℕ → Strike → EntryRule → Type 0
BreaksEntry config place before entry TooMany = 64 ≤ place
BreaksEntry config place before entry (NotLater number) = (place < 64) × (number ≡ before) × (entry.at ≤ before)
BreaksEntry config place before entry Nobody = (place < 64) × (before < entry.at) × (set.len entry.set ≡ 0)
BreaksEntry config place before entry (TooManyMembers f) = (place < 64) × (before < entry.at) × (f ≡ config.f) × (f < set.len entry.set)
BreaksEntry config place before entry (Outside outsider) =
    (place < 64) × (before < entry.at) × (1 ≤ set.len entry.set) × (set.len entry.set ≤ config.f) × IsLeastOutside entry.set config.members outsider

-- the fault is of the plan's first bad entry, and names the rule that it breaks
abbrev pub IsPlanFault : {N : Type 0} → List Strike → Settings N → PlanFault → Type 0
IsPlanFault plan config fault =
    IsFirstBad plan config fault.place × (slice_get plan fault.place ≡ Some fault.entry) × BreaksEntry config fault.place (number_before plan fault.place) fault.entry fault.rule
