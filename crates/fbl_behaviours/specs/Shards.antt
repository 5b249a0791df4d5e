-- What a shard does with a command, what each step keeps, and what it never makes.
use Rattle.std.proofs.Common.{◌≡◌, ◌≢◌, ℕ, ◌+◌, ◌%◌, ◌<◌, ◌≤◌, ◌==◌, ◌⊎◌, ◌∙◌, Bool, true, false, List, [], ◌∷◌, length, slice_index, slice_set, sum, sum_by, ap, inl, inr, refl, replicate, if◌then◌else◌, arith}
use Rattle.std.specs.List.{fold}
use Rattle.std.proofs.lemmas.Bool.{cases_lt, eqb-true, false≢true}
use Rattle.std.proofs.lemmas.Bool.Decides.{nat_tests}
use Rattle.std.proofs.lemmas.List.{get_or-set_other, set_past, get_or-set_same, length-set}
use Rattle.std.proofs.lemmas.List.Sums.{sum_by-set}
use Rattle.fbl_trace.specs.Configs.{Settings, IsConfig}
use Rattle.fbl_trace.specs.Fold.{state_after}
use Rattle.fbl_trace.specs.Steps.{Next, SendsWell, another_member}
use Rattle.fbl_trace.proofs.Gets.{get_or-same}
use Rattle.fbl_trace.specs.declared.outcome.Outcome.{Outcome}
use Rattle.fbl_law.specs.StepLaws.{AnyNote, HoldsFirst, StepKeeps, StepMakesNone, weight_of_starts}
use Rattle.fbl_behaviours.specs.Commands.{amount_of, changed, changed_at, key_of, made_of}
use Rattle.fbl_behaviours.specs.declared.command.Command.{Command}
use Rattle.fbl_behaviours.specs.declared.command.Command.TheVariants.{Put, Add}

-- the member that owns a key
abbrev pub key_owner : ℕ → ℕ → ℕ
key_owner n key = key % n

-- the values with that of the command's key changed
abbrev pub applied : Command → List ℕ → List ℕ
applied command values = slice_set values (key_of command) (changed command (slice_index values (key_of command)))

-- the owner of the command's key carries it out, and another member passes it on to the next
abbrev pub shard_step : ℕ → ℕ → List ℕ → Command → Outcome (List ℕ) Command
shard_step me n values command =
    if key_owner n (key_of command) == me then record { state = applied command values; sends = record { items = [] } }
    else record { state = values; sends = record { items = ((me + 1) % n, command) ∷ [] } }

-- each key has the value 0 at first, and any command may be a start
abbrev pub shard_next : Next (List ℕ) Command
shard_next = record { initial = λ me n. replicate 256 0; step = shard_step; allowed = λ command. true }

-- a state has values only of keys that its member owns
abbrev pub HoldsItsOwn : Settings Command → ℕ → List ℕ → Type 0
HoldsItsOwn c me values = (key : ℕ) → key_owner c.members key ≢ me → slice_index values key ≡ 0

-- the amounts that the starts bring, in all
abbrev pub amount_brought : Settings Command → ℕ
amount_brought c = weight_of_starts amount_of c

pub shard_sends_allowed : SendsWell shard_next
shard_sends_allowed me n values command least member = (grind (arith, nat_tests, another_member me n 1), grind (arith, nat_tests))

changed-most : (command : Command) (old : ℕ) → changed command old ≤ old + amount_of command
changed-most (Put key value) old = omega arith
changed-most (Add key amount) old = omega arith

pub shard_first : (c : Settings Command) → IsConfig shard_next.allowed c → HoldsFirst shard_next c (HoldsItsOwn c) AnyNote
shard_first c config = ((λ me member key other. get_or-same 256 key 0), (λ i default within. tt))

-- the values of other keys stay as they are
pub shard_keeps : (c : Settings Command) → IsConfig shard_next.allowed c → StepKeeps shard_next c.members (HoldsItsOwn c) AnyNote
shard_keeps c config me from values command member own any = (here (key_owner c.members (key_of command) == me) refl, λ i default within. tt) where
  here : (its : Bool) → (key_owner c.members (key_of command) == me) ≡ its → HoldsItsOwn c me (shard_step me c.members values command).state
  here false not = rw not own
  here true its = rw its (λ key other.
      get_or-set_other values (key_of command) key _ 0
      (λ same. other (ap (key_owner c.members) same ∙ eqb-true (key_owner c.members (key_of command)) me its))
      ∙ own key other)

-- no more is added to a value than the amount
pub shard_makes_none : (c : Settings Command) → IsConfig shard_next.allowed c → StepMakesNone shard_next c.members (HoldsItsOwn c) AnyNote (λ me values. sum values) amount_of
shard_makes_none c config me from values command member own any = here (key_owner c.members (key_of command) == me) refl where
  weight : Outcome (List ℕ) Command → ℕ
  weight outcome = sum outcome.state + sum_by (λ s. amount_of s.1) outcome.sends.items

  after : ℕ
  after = changed command (slice_index values (key_of command))

  sum-after : (key_of command < length values) ⊎ (length values ≤ key_of command) → sum (applied command values) ≤ sum values + amount_of command
  sum-after (inl within) = omega (arith, sum_by-set (λ v. v) values (key_of command) after 0 within, changed-most command (slice_index values (key_of command)))
  sum-after (inr past) = omega (arith, ap sum (set_past values (key_of command) after past))

  here : (its : Bool) → (key_owner c.members (key_of command) == me) ≡ its → weight (shard_step me c.members values command) ≤ sum values + amount_of command
  here true its = rw its (omega (arith, sum-after (cases_lt (key_of command) (length values))))
  here false not = rw not (omega arith)

-- so the value of a key at its owner is what the commands that the owner received make of it, each once and in their order
pub shard_value : (n key : ℕ) (commands : List Command) → key < 256
    → slice_index (state_after shard_next (key_owner n key) n commands) key ≡ made_of key commands
shard_value n key commands within = after commands (replicate 256 0) 0 refl (get_or-same 256 key 0) where
  -- a step changes the key's value as the command does, and leaves the number of values
  changes : (values : List ℕ) (command : Command) → length values ≡ 256
      → (slice_index (shard_step (key_owner n key) n values command).state key ≡ changed_at key (slice_index values key) command)
      × (length (shard_step (key_owner n key) n values command).state ≡ 256)
  changes values command count = here (key_of command == key) refl (key_owner n (key_of command) == key_owner n key) refl where
    here : (same : Bool) → (key_of command == key) ≡ same → (its : Bool) → (key_owner n (key_of command) == key_owner n key) ≡ its
        → (slice_index (shard_step (key_owner n key) n values command).state key ≡ changed_at key (slice_index values key) command)
        × (length (shard_step (key_owner n key) n values command).state ≡ 256)
    here true same true its = rw (its, same, eqb-true (key_of command) key same) (get_or-set_same values key (changed command (slice_index values key)) 0 (rw count within), (length-set values key (changed command (slice_index values key)) ∙ count))
    here true same false other = absurd (false≢true (grind (arith, nat_tests, same, other)))
    here false not true its = rw (its, not) (get_or-set_other values (key_of command) key (changed command (slice_index values (key_of command))) 0 (λ e. grind (arith, nat_tests, not, e)), (length-set values (key_of command) (changed command (slice_index values (key_of command))) ∙ count))
    here false not false other = rw (other, not) (refl, count)

  after : (left : List Command) (values : List ℕ) (value : ℕ) → length values ≡ 256 → slice_index values key ≡ value
      → slice_index (fold (λ state command. (shard_step (key_owner n key) n state command).state) values left) key ≡ fold (changed_at key) value left
  after [] values value count is = is
  after (command ∷ left) values value count is =
      let step = changes values command count in
      after left (shard_step (key_owner n key) n values command).state (changed_at key value command) step.1 (step.0 ∙ ap (λ v. changed_at key v command) is)
