-- Laws of precedence and of lawful traces, for the functions that state them.
use Rattle.std.specs.Prelude.{◌≡◌, ◌≢◌, ℕ, ◌+◌, ◌<◌, ◌≤◌, ◌⊎◌, ◌↔◌, List, [], ◌∷◌, ◌++◌, length, map, Some}
use Rattle.std.specs.List.{All}
use Rattle.fbl_trace.specs.declared.trace.Start.{Start}
use Rattle.fbl_trace.specs.declared.trace.Event.{Event}
use Rattle.fbl_trace.specs.declared.trace.Event.TheVariants as event
use Rattle.fbl_trace.specs.declared.trace.Mark.{Mark}
use Rattle.fbl_trace.specs.declared.trace.Mark.TheVariants.{Send, Receipt}
use Rattle.fbl_trace.specs.Events.{At, mark_of, member_of}
use Rattle.fbl_trace.specs.Rules.{sends_of, MayFollow, WellFormed}
use Rattle.fbl_trace.specs.Precedence.{Has, Precedes, Depends, DependsOnPlace, PlacePrecedes}
use Rattle.fbl_trace.specs.Fold.{Next, Lawful, actions_of, notes_of, note_of, state_after, step_events}

-- what precedes an appended receipt, which the trace did not have: itself, what its member depended on, and what precedes
-- its send
abbrev pub ReceiptLaw : Type 0
ReceiptLaw =
    (t : List Mark) (to rsn from ssn : ℕ) (a : Mark)
    → ¬ (Has t (Receipt to rsn from ssn))
    → Precedes (t ++ Receipt to rsn from ssn ∷ []) a (Receipt to rsn from ssn) ↔ (a ≡ Receipt to rsn from ssn) ⊎ Depends t to a ⊎ Precedes t a (Send from ssn to)

-- who depends on an event after one more, new one: who did before, and the member of the new one where the event
-- precedes that
abbrev pub DependsLaw : Type 0
DependsLaw =
    (t : List Mark) (e : Mark) (member : ℕ) (a : Mark)
    → ¬ (Has t e)
    → Depends (t ++ e ∷ []) member a ↔ Depends t member a ⊎ ((member_of e ≡ member) × Precedes (t ++ e ∷ []) a e)

-- on a well-formed trace precedence between events is precedence between their places
abbrev pub PlacesLaw : Type 0
PlacesLaw =
    (n : ℕ) (t : List Mark) → WellFormed n t
    → (i j : ℕ) (a b : Mark) → At t i a → At t j b
    → Precedes t a b ↔ PlacePrecedes t i j

-- on a well-formed trace a member depends on an event exactly where it depends on the event's place
abbrev pub DependsOnPlacesLaw : Type 0
DependsOnPlacesLaw =
    (n : ℕ) (t : List Mark) → WellFormed n t
    → (member i : ℕ) (a : Mark) → At t i a
    → Depends t member a ↔ DependsOnPlace t member i

-- a delivery keeps a trace lawful: the receipt may come next, what follows it are the sends that the behaviour answers to
-- the message's note at the receiver's state, numbered on from the receiver's earlier sends, and there is room
abbrev pub LawfulDeliveryLaw : Type 0 → Type 0 → Type 0
LawfulDeliveryLaw S N =
    (next : Next S N) (n : ℕ) (starts : List (Start N)) (t : List (Event N)) (to rsn from ssn : ℕ) (note : N) (sends : List (ℕ × N))
    → Lawful next n starts t
    → MayFollow n (map mark_of t) (Receipt to rsn from ssn)
    → note_of t from ssn ≡ Some note
    → sends ≡ (next.step to n (state_after next to n (notes_of (actions_of t to))) note).sends.items
    → All (λ (s : ℕ × N). (s.0 < n) × (s.0 ≢ to)) sends
    → length t + 1 + length sends ≤ 8192
    → Lawful next n starts (t ++ event.Receipt to rsn from ssn ∷ step_events to (sends_of (map mark_of t) to) sends)
