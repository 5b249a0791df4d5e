-- What behaviours do.
use Rattle.std.specs.Prelude.{◌≡◌, ◌≢◌, ℕ, ◌+◌, ◌-◌, ◌*◌, ◌%◌, ◌<◌, ◌≤◌, [], ◌∷◌, length, if◌then◌else◌, ◌==◌, nat_le}
use Rattle.std.specs.List.{All}
use Rattle.std.proofs.Common.{Bool, true, false, cond, inl, inr, ◌∙◌, arith, lit≤}
use Rattle.std.proofs.lemmas.Bool.{cases_lt}
use Rattle.std.proofs.Math.Nat.{mod-eq_of_lt}
use Rattle.std.proofs.lemmas.Nat.{mod-mul-add}
use Rattle.std.proofs.lemmas.List.Elements.{All-cons, All-nil}
use Rattle.fbl_trace.specs.declared.trace.Note.{Note}
use Rattle.fbl_trace.specs.declared.outcome.Outcome.{Outcome}

-- a behaviour: the state of a member that has received nothing, by the member and the group's size; what is answered to a
-- member, the group's size, a state and a content; and which contents a start may have
pub record Next (S N : Type 0) : Type 0 where
  pub initial : ℕ → ℕ → S
  pub step : ℕ → ℕ → S → N → Outcome S N
  pub allowed : N → Bool

-- at most 15 hops
abbrev pub has_few_hops : Note → Bool
has_few_hops note = nat_le note.hops 15

-- the new state, and the message passed on to `to` if it has hops left
abbrev pub onward : {S : Type 0} → S → ℕ → ℕ → ℕ → Outcome S Note
onward state to value hops = record { state = state; sends = record { items = (if hops == 0 then [] else ((to, record { value = value; hops = hops - 1 }) ∷ [])) } }

-- what each new state is taken modulo
abbrev pub modulus : ℕ
modulus = 1000000007

-- adds up the values, and passes each message that has hops left on to the next member
abbrev pub relay_step : ℕ → ℕ → ℕ → Note → Outcome ℕ Note
relay_step me n state note = onward ((state + note.value) % modulus) ((me + 1) % n) note.value note.hops

-- mixes the values, and where the message has hops left sends the new state, modulo 1000, to a member that this state
-- chooses
abbrev pub mix_step : ℕ → ℕ → ℕ → Note → Outcome ℕ Note
mix_step me n state note =
    let after = (31 * state + note.value + 1) % modulus in
    onward after ((me + 1 + after % (n - 1)) % n) (after % 1000) note.hops

-- a behaviour of states and notes as they are specified, by each member's first number and the step
abbrev pub numeric : (ℕ → ℕ → ℕ) → (ℕ → ℕ → ℕ → Note → Outcome ℕ Note) → Next ℕ Note
numeric first step = record { initial = first; step = step; allowed = has_few_hops }

-- as the specified ones are: each member begins at 0
abbrev pub numbered_from_0 : (ℕ → ℕ → ℕ → Note → Outcome ℕ Note) → Next ℕ Note
numbered_from_0 step = numeric (λ me n. 0) step

-- at most four sends, to members below n other than the sender
abbrev pub SendsAllowed : {S N : Type 0} → ℕ → ℕ → Outcome S N → Type 0
SendsAllowed me n outcome = All (λ s. (s.0 < n) × (s.0 ≢ me)) outcome.sends.items × (length outcome.sends.items ≤ 4)

-- the behaviour's sends are allowed, at each state and message
abbrev pub SendsWell : {S N : Type 0} → Next S N → Type 0
SendsWell {S} {N} next = (me n : ℕ) (state : S) (note : N) → 2 ≤ n → me < n → SendsAllowed me n (next.step me n state note)

-- what each behaviour shows: its sends are allowed, a start may have the contents that their type allows, and a step fits in
-- memory
pub record IsBehaviour {S N : Type 0} (next : Next S N) (allowed : N → Bool) (Fits : Type 0) : Type 0 where
  pub sends : SendsWell next
  pub starts : next.allowed ≡ allowed
  pub fits : Fits

-- what is passed on goes to `to` alone
passed_on : (me n : ℕ) (last : Bool) (send : ℕ × Note) → send.0 < n → send.0 ≢ me → All (λ (s : ℕ × Note). (s.0 < n) × (s.0 ≢ me)) (cond last [] (send ∷ [])) × (length (cond last [] (send ∷ [])) ≤ 4)
passed_on me n true send within other = (All-nil (λ (s : ℕ × Note). (s.0 < n) × (s.0 ≢ me)), lit≤ tt)
passed_on me n false send within other = (All-cons (λ (s : ℕ × Note). (s.0 < n) × (s.0 ≢ me)) send [] (within, other) (All-nil (λ (s : ℕ × Note). (s.0 < n) × (s.0 ≢ me))), lit≤ tt)

-- a step of 1 to n - 1 places round the group leads to another member
pub another_member : (me n by : ℕ) → me < n → 0 < by → by < n → (me + by) % n ≢ me
another_member me n by member more less is = elim (cases_lt (me + by) n) [
  | inl below ↦ omega (arith, is, mod-eq_of_lt below)
  | inr past ↦
      let wrapped : (me + by) % n ≡ me + by - n = (let e : me + by ≡ 1 * n + (me + by - n) = omega arith in rw e (mod-mul-add 1 n (me + by - n) (omega arith) ∙ omega arith)) in
      omega (arith, is, wrapped)
]

pub relay_sends_allowed : (me n state : ℕ) (note : Note) → 2 ≤ n → me < n → SendsAllowed me n (relay_step me n state note)
relay_sends_allowed me n state note least member =
    passed_on me n (note.hops == 0) ((me + 1) % n, record { value = note.value; hops = note.hops - 1 }) (omega arith) (another_member me n 1 member (omega arith) (omega arith))

pub mix_sends_allowed : (me n state : ℕ) (note : Note) → 2 ≤ n → me < n → SendsAllowed me n (mix_step me n state note)
mix_sends_allowed me n state note least member =
    let after : ℕ = (31 * state + note.value + 1) % modulus in
    passed_on me n (note.hops == 0) ((me + 1 + after % (n - 1)) % n, record { value = after % 1000; hops = note.hops - 1 }) (omega arith)
    (let e : me + 1 + after % (n - 1) ≡ me + (1 + after % (n - 1)) = omega arith in rw e (another_member me n (1 + after % (n - 1)) member (omega arith) (omega arith)))
