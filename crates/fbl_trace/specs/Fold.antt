-- What a member does with the messages that it receives, and lawful traces. That a member's state is a function of the
-- messages that it received, in their order, is piecewise determinism (Elnozahy, Alvisi, Wang and Johnson 2002).
use Rattle.std.specs.Prelude.{◌≡◌, ℕ, ◌+◌, ◌==◌, ◌&&◌, List, [], ◌∷◌, ◌++◌, length, take, drop, map, Option, Some, None, if◌then◌else◌, ⊤}
use Rattle.std.specs.List.{filter_map, fold}
use Rattle.std.specs.Option.{option_map}
use Rattle.fbl_trace.specs.declared.trace.Start.{Start}
use Rattle.fbl_trace.specs.declared.trace.Event.{Event}
use Rattle.fbl_trace.specs.declared.trace.Event.TheVariants.{Send, Receipt}
use Rattle.fbl_trace.specs.declared.outcome.Outcome.{Outcome}
use Rattle.fbl_trace.specs.Events.{mark_of}
use Rattle.fbl_trace.specs.Rules.{WellFormed}
pub use Rattle.fbl_trace.specs.Steps.{Next}

-- a message in a member's log: its number, where it went, its content
pub record Logged (N : Type 0) : Type 0 where
  pub ssn : ℕ
  pub to : ℕ
  pub note : N

-- where a member has come: its state, how many receipts it has had, and its sends with their numbers
pub record Progress (S N : Type 0) : Type 0 where
  pub state : S
  pub received : ℕ
  pub log : List (Logged N)

-- the sends, numbered from one more than `before`
abbrev pub numbered : {N : Type 0} → ℕ → List (ℕ × N) → List (Logged N)
numbered before [] = []
numbered before (s ∷ sends) = record { ssn = before + 1; to = s.0; note = s.1 } ∷ numbered (before + 1) sends

-- the starts of one member, in list order
abbrev pub starts_of : {N : Type 0} → ℕ → List (Start N) → List (ℕ × N)
starts_of member starts = filter_map (λ s. if s.from == member then Some (s.to, s.note) else None) starts

-- a member that has received nothing, and has sent its starts, by the state in which it begins
abbrev pub begun : {S N : Type 0} → S → ℕ → List (Start N) → Progress S N
begun initial member starts = record { state = initial; received = 0; log = numbered 0 (starts_of member starts) }

-- a member after a step: the new state, one receipt more, and the step's sends with the next numbers at the log's end
abbrev pub stepped : {S N : Type 0} → Progress S N → Outcome S N → Progress S N
stepped p outcome = record { state = outcome.state; received = p.received + 1; log = p.log ++ numbered (length p.log) outcome.sends.items }

-- a member after one more receipt
abbrev pub advanced : {S N : Type 0} → Next S N → ℕ → ℕ → Progress S N → N → Progress S N
advanced next member n p note = stepped p (next.step member n p.state note)

-- a member after its starts and then the notes in order
abbrev pub after_notes : {S N : Type 0} → Next S N → ℕ → ℕ → List (Start N) → List N → Progress S N
after_notes next member n starts notes = fold (advanced next member n) (begun (next.initial member n) member starts) notes

-- the note of the message with this number of a sender: that of its first such send in the trace, if there is one
abbrev pub note_of : {N : Type 0} → List (Event N) → ℕ → ℕ → Option N
note_of [] from ssn = None
note_of (Send from' ssn' to note ∷ rest) from ssn = if from' == from && ssn' == ssn then Some note else note_of rest from ssn
note_of (Receipt to rsn from' ssn' ∷ rest) from ssn = note_of rest from ssn

-- what a member does: it takes a note in, or sends one
pub data Action (N : Type 0) : Type 0 where
  took : N → Action N
  sent : ℕ × N → Action N

-- what an event is to the member, if it is the member's: a send of its note, or the taking of the note with which the
-- trace has the message sent
abbrev pub action_of : {N : Type 0} → List (Event N) → ℕ → Event N → Option (Action N)
action_of trace member (Send from ssn to note) = if from == member then Some (sent (to, note)) else None
action_of trace member (Receipt to rsn from ssn) = if to == member then option_map took (note_of trace from ssn) else None

-- what the member does in the trace, in order
abbrev pub actions_of : {N : Type 0} → List (Event N) → ℕ → List (Action N)
actions_of trace member = filter_map (action_of trace member) trace

-- the notes among a member's actions
abbrev pub notes_of : {N : Type 0} → List (Action N) → List N
notes_of [] = []
notes_of (took note ∷ actions) = note ∷ notes_of actions
notes_of (sent s ∷ actions) = notes_of actions

-- from a state, each note taken in and right after it what the behaviour sends
abbrev pub responses : {S N : Type 0} → Next S N → ℕ → ℕ → S → List N → List (Action N)
responses next member n state [] = []
responses next member n state (note ∷ notes) =
    let outcome = next.step member n state note in
    took note ∷ (map sent outcome.sends.items ++ responses next member n outcome.state notes)

-- the state of a member after these notes
abbrev pub state_after : {S N : Type 0} → Next S N → ℕ → ℕ → List N → S
state_after next member n notes = fold (λ state note. (next.step member n state note).state) (next.initial member n) notes

-- the events of a member's sends, numbered from one more than `before`
abbrev pub step_events : {N : Type 0} → ℕ → ℕ → List (ℕ × N) → List (Event N)
step_events member before [] = []
step_events member before (s ∷ sends) = Send member (before + 1) s.0 s.1 ∷ step_events member (before + 1) sends

-- the send as a start, without its number
abbrev pub start_of : {N : Type 0} → Event N → Option (Start N)
start_of (Send from ssn to note) = Some (record { from = from; to = to; note = note })
start_of (Receipt to rsn from ssn) = None

-- each send comes right after an event of its sender, where `last` is the member of the event before these ones, if one counts
abbrev pub InTurns : {N : Type 0} → Option ℕ → List (Event N) → Type 0
InTurns last [] = ⊤
InTurns last (Send from ssn to note ∷ rest) = (last ≡ Some from) × InTurns (Some from) rest
InTurns last (Receipt to rsn from ssn ∷ rest) = InTurns (Some to) rest

-- a run in which nobody crashes: it obeys the rules, begins with the starts in list order, each member sends its starts and
-- then, after each receipt, what the behaviour answers, and it sends that at once: beyond the starts each send comes right after
-- the receipt that it answers, or after another send that answers it
pub record Lawful {S N : Type 0} (next : Next S N) (n : ℕ) (starts : List (Start N)) (trace : List (Event N)) : Type 0 where
  pub well_formed : WellFormed n (map mark_of trace)
  pub starts_first : filter_map start_of (take (length starts) trace) ≡ starts
  pub responds : (member : ℕ) → actions_of trace member ≡ map sent (starts_of member starts) ++ responses next member n (next.initial member n) (notes_of (actions_of trace member))
  pub turns : InTurns None (drop (length starts) trace)
