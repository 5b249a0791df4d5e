-- Causal precedence between the events of a trace, and between their places: happened-before (Lamport 1978), made reflexive. Who depends
-- on an event is Depend of Alvisi and Marzullo (1998), for any event in place of a receipt.
use Rattle.std.specs.Prelude.{ℕ, List, ◌≡◌, ◌<◌, ◌⊎◌, Some, slice_get}
use Rattle.fbl_trace.specs.declared.trace.Mark.{Mark}
use Rattle.fbl_trace.specs.Events.{At, member_of, send_of}

-- the trace has the event e
abbrev pub Has : List Mark → Mark → Type 0
Has trace e = (i : ℕ) × At trace i e

-- the trace has a at an earlier place than b
abbrev pub Earlier : List Mark → Mark → Mark → Type 0
Earlier trace a b = (i : ℕ) × (j : ℕ) × (i < j) × At trace i a × At trace j b

-- one step of causality: to a later event of the same member, or from a send to its receipt
abbrev pub Leads : List Mark → Mark → Mark → Type 0
Leads trace a b = Earlier trace a b × ((member_of a ≡ member_of b) ⊎ (send_of b ≡ Some a))

-- a path of steps leads from a to b
pub data Precedes (trace : List Mark) (a : Mark) : Mark → Type 0 where
  itself : Has trace a → Precedes trace a a
  step : {b c : Mark} → Precedes trace a b → Leads trace b c → Precedes trace a c

-- the event a precedes some event of the member
abbrev pub Depends : List Mark → ℕ → Mark → Type 0
Depends trace member a = (b : Mark) × Precedes trace a b × (member_of b ≡ member)

-- one step of causality: to a later event of the same member, or from a send to its receipt
abbrev pub PlaceLeads : List Mark → ℕ → ℕ → Type 0
PlaceLeads trace i j = (a : Mark) × (b : Mark) × (i < j) × At trace i a × At trace j b × ((member_of a ≡ member_of b) ⊎ (send_of b ≡ Some a))

-- a path of steps leads from the event at i to the one at j
pub data PlacePrecedes (trace : List Mark) (i : ℕ) : ℕ → Type 0 where
  same_place : {a : Mark} → At trace i a → PlacePrecedes trace i i
  place_step : {j k : ℕ} → PlacePrecedes trace i j → PlaceLeads trace j k → PlacePrecedes trace i k

-- the event at i precedes some event of the member
abbrev pub DependsOnPlace : List Mark → ℕ → ℕ → Type 0
DependsOnPlace trace member i = (j : ℕ) × (b : Mark) × PlacePrecedes trace i j × At trace j b × (member_of b ≡ member)

-- one of the events at these places precedes the one at j
abbrev pub IsReached : List Mark → List ℕ → ℕ → Type 0
IsReached trace places j = (k : ℕ) × (i : ℕ) × (slice_get places k ≡ Some i) × PlacePrecedes trace i j
