-- What the loss of a dump's strike set does: which receipts are lost, and who is an orphan.
use Rattle.std.specs.Prelude.{◌≡◌, ℕ, Bool, false, not, ◌&&◌, List}
use Rattle.std.specs.List.{Contains, list_any, filter}
use Rattle.std.specs.FinSet as set
use Rattle.fbl_trace.specs.declared.trace.Determinant.{Determinant}
use Rattle.fbl_trace.specs.declared.trace.Mark.{Mark}
use Rattle.fbl_trace.specs.declared.trace.Mark.TheVariants.{Send, Receipt}
use Rattle.fbl_trace.specs.Events.{receipts, same_determinant}
use Rattle.fbl_trace.specs.Precedence.{Depends}
use Rattle.fbl_trace.specs.Dumps.{Parts}

-- a member outside the strike set holds the determinant: some member of Log is left (Alvisi and Marzullo 1998, as lost
-- receipts and orphans are)
abbrev pub IsHeldOutside : Parts → Determinant → Type 0
IsHeldOutside dump d = (holder : ℕ) × Contains dump.held (holder, d) × (set.contains dump.strike holder ≡ false)

-- the same as `IsHeldOutside`, as a test
abbrev pub is_held_outside : Parts → Determinant → Bool
is_held_outside dump d = list_any (λ h. not (set.contains dump.strike h.0) && same_determinant h.1 d) dump.held

-- the determinants of the lost receipts, in the order of the events
abbrev pub lost_determinants : Parts → List Determinant
lost_determinants dump = filter (λ d. not (is_held_outside dump d)) (receipts dump.events)

-- the event is a receipt whose determinant no member outside the strike set holds
abbrev pub IsLost : Parts → Mark → Type 0
IsLost dump (Send from ssn to) = ⊥
IsLost dump (Receipt to rsn from ssn) = ¬ (IsHeldOutside dump (record { from = from; ssn = ssn; to = to; rsn = rsn }))

-- the member is outside the strike set and depends on a lost receipt
abbrev pub IsDumpOrphan : Parts → ℕ → Type 0
IsDumpOrphan dump member = (set.contains dump.strike member ≡ false) × ((e : Mark) × IsLost dump e × Depends dump.events member e)
