-- What a law of one step gives of a whole group, whatever was delivered, struck and recovered: a predicate that each step
-- keeps holds of every state and of every message; where each step keeps a weight, the group does.
use Rattle.std.specs.Prelude.{◌≡◌, ℕ, ◌+◌, ◌<◌, ◌≤◌, Some, slice_get, sum_by, if◌then◌else◌}
use Rattle.std.specs.List.{All}
use Rattle.std.specs.FinSet as set
use Rattle.fbl_trace.specs.declared.trace.Start.{Start}
use Rattle.fbl_trace.specs.declared.trace.Event.TheVariants.{Send}
use Rattle.fbl_trace.specs.Configs.{Settings}
use Rattle.fbl_trace.specs.Fold.{Next}
use Rattle.fbl_member.specs.Members.{Message}
use Rattle.fbl_law.specs.Knowledge.{IsInFlight}
use Rattle.fbl_law.specs.Groups.{GroupRecord, member, member_checkpoint, channel, knowledge, messages_in_flight, sum_below}

-- each step of n members keeps the predicates: from a state with P, at a note with Q from some sender, the new state has P,
-- and each send has Q, which is of a sender, a receiver and a note
abbrev pub StepKeeps : {S N : Type 0} → Next S N → ℕ → (ℕ → S → Type 0) → (ℕ → ℕ → N → Type 0) → Type 0
StepKeeps {S} {N} next n P Q =
    (me from : ℕ) (state : S) (note : N) → me < n → P me state → Q from me note
    → P me (next.step me n state note).state × All (λ s. Q me s.0 s.1) (next.step me n state note).sends.items

-- predicates that hold of all
abbrev pub AnyState : {S : Type 0} → ℕ → S → Type 0
AnyState me state = Unit {0}

abbrev pub AnyNote : {N : Type 0} → ℕ → ℕ → N → Type 0
AnyNote from to note = Unit {0}

-- the predicates hold at first: P of each member's first state, Q of the starts
abbrev pub HoldsFirst : {S N : Type 0} → Next S N → Settings N → (ℕ → S → Type 0) → (ℕ → ℕ → N → Type 0) → Type 0
HoldsFirst {N = N} next c P Q = ((me : ℕ) → me < c.members → P me (next.initial me c.members)) × All (λ (s : Start N). Q s.from s.to s.note) c.starts

-- the predicates hold of a group: P of each member's state and of each checkpoint's, Q of each message in flight and of
-- each send of the trace
pub record HoldsOf {S N : Type 0} (r : GroupRecord S N) (P : ℕ → S → Type 0) (Q : ℕ → ℕ → N → Type 0) : Type 0 where
  pub states : (m : ℕ) → m < r.config.members → P m (member r m).state
  pub checkpoints : (m : ℕ) → m < r.config.members → P m (member_checkpoint r m).state
  pub flying : (v : Message N) → IsInFlight (knowledge r) v → Q v.from v.to v.note
  pub sent : (i from ssn to : ℕ) (note : N) → slice_get r.trace i ≡ Some (Send from ssn to note) → Q from to note

-- what a step weighs after it, the new state and the sends, and before it, the old state and the note
abbrev pub weight_after : {S N : Type 0} → Next S N → ℕ → (ℕ → S → ℕ) → (N → ℕ) → ℕ → S → N → ℕ
weight_after next n mass weight me state note =
    mass me (next.step me n state note).state + sum_by (λ s. weight s.1) (next.step me n state note).sends.items

-- each step that starts from P and Q makes no weight
abbrev pub StepMakesNone : {S N : Type 0} → Next S N → ℕ → (ℕ → S → Type 0) → (ℕ → ℕ → N → Type 0) → (ℕ → S → ℕ) → (N → ℕ) → Type 0
StepMakesNone {S} {N} next n P Q mass weight =
    (me from : ℕ) (state : S) (note : N) → me < n → P me state → Q from me note
    → weight_after next n mass weight me state note ≤ mass me state + weight note

-- and loses none
abbrev pub StepLosesNone : {S N : Type 0} → Next S N → ℕ → (ℕ → S → Type 0) → (ℕ → ℕ → N → Type 0) → (ℕ → S → ℕ) → (N → ℕ) → Type 0
StepLosesNone {S} {N} next n P Q mass weight =
    (me from : ℕ) (state : S) (note : N) → me < n → P me state → Q from me note
    → mass me state + weight note ≤ weight_after next n mass weight me state note

-- and so keeps the weight
abbrev pub StepConserves : {S N : Type 0} → Next S N → ℕ → (ℕ → S → Type 0) → (ℕ → ℕ → N → Type 0) → (ℕ → S → ℕ) → (N → ℕ) → Type 0
StepConserves {S} {N} next n P Q mass weight =
    (me from : ℕ) (state : S) (note : N) → me < n → P me state → Q from me note
    → weight_after next n mass weight me state note ≡ mass me state + weight note

-- what the states of the members that are up weigh
abbrev pub weight_held : {S N : Type 0} → (ℕ → S → ℕ) → GroupRecord S N → ℕ
weight_held mass r = sum_below r.config.members (λ m. if set.contains r.down m then 0 else mass m (member r m).state)

-- what the messages in flight weigh
abbrev pub weight_flying : {S N : Type 0} → (N → ℕ) → GroupRecord S N → ℕ
weight_flying {N = N} weight r =
    sum_below r.config.members (λ q. sum_below r.config.members (λ p. sum_by (λ (v : Message N). weight v.note) (channel r q p)))

-- what a group weighs: the states of its members that are up, and its messages in flight
abbrev pub weight_of : {S N : Type 0} → (ℕ → S → ℕ) → (N → ℕ) → GroupRecord S N → ℕ
weight_of mass weight r = weight_held mass r + weight_flying weight r

-- what the starts weigh
abbrev pub weight_of_starts : {N : Type 0} → (N → ℕ) → Settings N → ℕ
weight_of_starts {N} weight c = sum_by (λ (s : Start N). weight s.note) c.starts

-- what a group begins with: its members' first states and its starts
abbrev pub weight_at_first : {S N : Type 0} → Next S N → (ℕ → S → ℕ) → (N → ℕ) → Settings N → ℕ
weight_at_first next mass weight c = sum_below c.members (λ m. mass m (next.initial m c.members)) + weight_of_starts weight c

-- the group weighs no more than it began with
abbrev pub WeighsNoMore : {S N : Type 0} → Next S N → (ℕ → S → ℕ) → (N → ℕ) → GroupRecord S N → Type 0
WeighsNoMore next mass weight r = weight_of mass weight r ≤ weight_at_first next mass weight r.config

-- the group weighs no less than it began with where nobody is down, and nor do its states alone where nothing is in flight
pub record WeighsNoLess {S N : Type 0} (next : Next S N) (mass : ℕ → S → ℕ) (weight : N → ℕ) (r : GroupRecord S N) : Type 0 where
  pub whole : r.down ≡ set.empty → weight_at_first next mass weight r.config ≤ weight_of mass weight r
  pub settled : r.down ≡ set.empty → messages_in_flight r ≡ 0 → weight_at_first next mass weight r.config ≤ weight_held mass r

-- the group weighs what it began with where nobody is down, so do its states alone where nothing is in flight, and whoever is
-- down it weighs no more
pub record WeighsTheSame {S N : Type 0} (next : Next S N) (mass : ℕ → S → ℕ) (weight : N → ℕ) (r : GroupRecord S N) : Type 0 where
  pub whole : r.down ≡ set.empty → weight_of mass weight r ≡ weight_at_first next mass weight r.config
  pub settled : r.down ≡ set.empty → messages_in_flight r ≡ 0 → weight_held mass r ≡ weight_at_first next mass weight r.config
  pub most : WeighsNoMore next mass weight r
