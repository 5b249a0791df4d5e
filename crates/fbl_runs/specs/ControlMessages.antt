-- Which control messages may stand in a log.
use Rattle.std.specs.Prelude.{ℕ, ◌≡◌, ◌≢◌, ◌==◌, ◌&&◌, ◌<◌, ◌↔◌, true, Bool, List, Some, slice_get, take}
use Rattle.std.specs.HashSet as hash_set
use Rattle.fbl_trace.specs.Breaches.{IsEndOutside}
use Rattle.fbl_runs.specs.declared.control.ControlMessage.{ControlMessage}
use Rattle.fbl_runs.specs.declared.control.ControlMessages.{ControlMessages}
use Rattle.fbl_runs.specs.declared.entry.Entry.{Entry}
use Rattle.fbl_runs.specs.declared.entry.Entry.TheVariants.{Tell, Told}
use Rattle.fbl_runs.specs.declared.fault.ControlFault.{ControlFault}
use Rattle.fbl_runs.specs.declared.fault.ControlRule.{ControlRule}
use Rattle.fbl_runs.specs.declared.fault.ControlRule.TheVariants.{NotTold, Outside, SameNumber, ToItself, ToldBefore}

-- the entries have this one
abbrev pub Has : List Entry → Entry → Type 0
Has entries e = (i : ℕ) × (slice_get entries i ≡ Some e)

-- the message goes from a member of a group of n to another
abbrev pub AreEndsAllowed : ℕ → ControlMessage → Type 0
AreEndsAllowed n m = (m.from < n) × (m.to < n) × (m.from ≢ m.to)

-- what the entry's member is told, if it is told something, was told before
abbrev pub IsHeard : List Entry → Entry → Type 0
IsHeard before (Told m) = Has before (Tell m)
IsHeard before e = Unit {0}

-- behind these the entry obeys the rules: no two tells are the same, and a member is told what was told before, and only once. Control
-- messages come in any order, and may be lost
abbrev pub MayBeTold : ℕ → List Entry → Entry → Type 0
MayBeTold n before (Tell m) = AreEndsAllowed n m × ¬ (Has before (Tell m))
MayBeTold n before (Told m) = Has before (Tell m) × ¬ (Has before (Told m))
MayBeTold n before e = Unit {0}

-- the entry at the place, if there is one, does
abbrev pub IsToldAt : ℕ → List Entry → ℕ → Type 0
IsToldAt n entries i = (e : Entry) → slice_get entries i ≡ Some e → MayBeTold n (take i entries) e

-- each entry does
abbrev pub AreTold : ℕ → List Entry → Type 0
AreTold n entries = (i : ℕ) → IsToldAt n entries i

-- behind these the entry breaks this rule first
abbrev pub BreaksControl : ℕ → List Entry → Entry → ControlRule → Type 0
BreaksControl n before (Tell m) (Outside outsider) = IsEndOutside n m.from m.to outsider
BreaksControl n before (Tell m) ToItself = (m.from < n) × (m.to < n) × (m.from ≡ m.to)
BreaksControl n before (Tell m) SameNumber = AreEndsAllowed n m × Has before (Tell m)
BreaksControl n before (Told m) NotTold = ¬ (Has before (Tell m))
BreaksControl n before (Told m) ToldBefore = Has before (Tell m) × Has before (Told m)
BreaksControl n before e rule = ⊥

-- the fault is of the first entry that breaks one, and names it and the rule
abbrev pub IsFirstUntold : ℕ → List Entry → ControlFault → Type 0
IsFirstUntold n entries fault =
    ((i : ℕ) → i < fault.place → IsToldAt n entries i) × (slice_get entries fault.place ≡ Some fault.entry)
    × BreaksControl n (take fault.place entries) fault.entry fault.rule

-- ---- a pass

-- whether two control messages are the same
abbrev pub same_control : ControlMessage → ControlMessage → Bool
same_control a b = a.from == b.from && (a.to == b.to && a.id == b.id)

-- the pass has seen these entries: it knows what was told, and what members were told
pub record HasTold (before : List Entry) (known : ControlMessages) : Type 0 where
  pub tells : (m : ControlMessage) → (hash_set.contains same_control known.tells m ≡ true) ↔ Has before (Tell m)
  pub tolds : (m : ControlMessage) → (hash_set.contains same_control known.tolds m ≡ true) ↔ Has before (Told m)
