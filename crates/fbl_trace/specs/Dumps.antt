-- The rules of a dump, and why one is refused: of several broken rules the first in the order given here.
use Rattle.std.specs.Prelude.{◌≡◌, Some, slice_get, ℕ, ◌<◌, ◌≤◌, Bool, List}
use Rattle.std.specs.List.{list_any}
use Rattle.std.specs.Ordering.{nat_cmp}
use Rattle.std.specs.FinSet as set
use Rattle.fbl_trace.specs.declared.trace.Determinant.{Determinant}
use Rattle.fbl_trace.specs.declared.trace.Mark.{Mark}
use Rattle.fbl_trace.specs.Events.{receipt_of, receipts, same_determinant}
use Rattle.fbl_trace.specs.Precedence.{Has}
use Rattle.fbl_trace.specs.Rules.{ObeysAt, WellFormed}
use Rattle.fbl_trace.specs.Configs.{MembersAllowed, FAllowed, IsFirstBreach}
use Rattle.fbl_trace.specs.MemberSets.{AllBelow}
use Rattle.fbl_trace.specs.declared.dump.refusal.DumpRefusal.{DumpRefusal}
use Rattle.fbl_trace.specs.declared.dump.refusal.DumpRefusal.TheVariants.{BadMembers, BadF, BadEvent, BadHeld, BadStrike, Memory}
use Rattle.fbl_trace.specs.declared.fault.Breach.{Breach}
use Rattle.fbl_trace.specs.declared.fault.Breach.TheVariants as breach
use Rattle.fbl_trace.specs.declared.fault.PairRule.{PairRule}
use Rattle.fbl_trace.specs.declared.fault.PairRule.TheVariants as pair_rule
use Rattle.fbl_trace.specs.declared.fault.PairFault.{PairFault}
use Rattle.fbl_trace.specs.Breaches.{IsEventFault, IsLeastOutside, IsOutside}
use Rattle.fbl_trace.specs.declared.dump.raw_dump.RawDump.{RawDump}

-- the five parts of a dump
pub record Parts : Type 0 where
  pub members : ℕ
  pub f : ℕ
  pub events : List Mark
  pub held : List (ℕ × Determinant)
  pub strike : set.FinSet nat_cmp

-- the pair at the place breaks no rule in a group of n: it is among the first 131,072, and has a member of the group and a
-- receipt of the trace
abbrev pub FitsPair : ℕ → List Mark → ℕ → ℕ → Determinant → Type 0
FitsPair n trace place holder d = (place < 131072) × (holder < n) × Has trace (receipt_of d)

-- the pair at the place, if there is one, breaks no rule
abbrev pub HeldAt : Parts → ℕ → Type 0
HeldAt dump i = (h : ℕ × Determinant) → slice_get dump.held i ≡ Some h → FitsPair dump.members dump.events i h.0 h.1

-- the rules of a dump: its parameters are allowed, its trace is well formed, and each pair and the strike set fit them
pub record IsDump (dump : Parts) : Type 0 where
  pub members : MembersAllowed dump.members
  pub f : FAllowed dump.members dump.f
  pub events : WellFormed dump.members dump.events
  pub held : (i : ℕ) → HeldAt dump i
  pub strike : AllBelow dump.strike dump.members

-- the refusal is the first that fits; memory may run out once the parameters are allowed, whether or not another fits
abbrev pub RefusesDump : Parts → DumpRefusal → Type 0
RefusesDump dump BadMembers = ¬ (MembersAllowed dump.members)
RefusesDump dump BadF = MembersAllowed dump.members × ¬ (FAllowed dump.members dump.f)
RefusesDump dump (BadEvent place) = MembersAllowed dump.members × FAllowed dump.members dump.f × IsFirstBreach (ObeysAt dump.members dump.events) place
RefusesDump dump (BadHeld place) = MembersAllowed dump.members × FAllowed dump.members dump.f × WellFormed dump.members dump.events × IsFirstBreach (HeldAt dump) place
RefusesDump dump BadStrike = MembersAllowed dump.members × FAllowed dump.members dump.f × WellFormed dump.members dump.events × ((i : ℕ) → HeldAt dump i) × ¬ (AllBelow dump.strike dump.members)
RefusesDump dump Memory = MembersAllowed dump.members × FAllowed dump.members dump.f

-- the parts, as contracts see them
abbrev pub parts_of : RawDump → Parts
parts_of raw = record { members = raw.members; f = raw.f; events = raw.events.items; held = raw.held.items; strike = raw.strike }

-- whether some receipt among the events has the determinant
abbrev pub is_received : List Mark → Determinant → Bool
is_received events d = list_any (λ x. same_determinant x d) (receipts events)

-- ---- the rule that a refused dump breaks

-- the pair at the place breaks this rule in a group of n
abbrev pub BreaksPair : ℕ → List Mark → ℕ → ℕ → Determinant → PairRule → Type 0
BreaksPair n trace place holder d pair_rule.TooMany = 131072 ≤ place
BreaksPair n trace place holder d (pair_rule.Outside outsider) = (place < 131072) × IsOutside n holder outsider
BreaksPair n trace place holder d (pair_rule.NoReceipt receipt) = (place < 131072) × (holder < n) × (receipt ≡ receipt_of d) × ¬ (Has trace receipt)

-- the pair at the fault's place is the fault's, and breaks its rule
abbrev pub IsPairFault : Parts → PairFault → Type 0
IsPairFault dump fault = (slice_get dump.held fault.place ≡ Some (fault.holder, fault.determinant)) × BreaksPair dump.members dump.events fault.place fault.holder fault.determinant fault.rule

-- this is what the dump is refused for
abbrev pub IsDumpBreach : Parts → DumpRefusal → Breach → Type 0
IsDumpBreach dump BadMembers (breach.Members members) = members ≡ dump.members
IsDumpBreach dump BadF (breach.F f members) = (f ≡ dump.f) × (members ≡ dump.members)
IsDumpBreach dump (BadEvent place) (breach.Event fault) = (fault.place ≡ place) × IsEventFault dump.members dump.events fault
IsDumpBreach dump (BadHeld place) (breach.Held fault) = (fault.place ≡ place) × IsPairFault dump fault
IsDumpBreach dump BadStrike (breach.Strike outsider) = IsLeastOutside dump.strike dump.members outsider
IsDumpBreach dump Memory breach.Memory = Unit {0}
IsDumpBreach dump _ _ = ⊥
