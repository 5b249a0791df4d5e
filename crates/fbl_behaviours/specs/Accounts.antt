-- What an account does with a payment.
use Rattle.std.specs.Prelude.{ℕ, ◌+◌, ◌-◌, ◌*◌, ◌/◌, ◌%◌, ◌^◌, ◌==◌, nat_lt, max, min, if◌then◌else◌}
use Rattle.std.proofs.Common.{arith}
use Rattle.std.proofs.lemmas.Bool.Decides.{nat_tests}
use Rattle.fbl_trace.specs.Configs.{Settings, MembersAllowed}
use Rattle.fbl_trace.specs.Steps.{Next, SendsWell, onward, numeric, another_member}
use Rattle.fbl_trace.specs.Numeric.{IsNumeric, by_sends}
use Rattle.fbl_law.specs.StepLaws.{AnyState, AnyNote, StepConserves, weight_at_first}
use Rattle.fbl_trace.specs.declared.trace.Note.{Note}
use Rattle.fbl_trace.specs.declared.outcome.Outcome.{Outcome}

-- the payment is taken in, and half of the balance is paid to the next account if hops are left. A payment for which there
-- is no room is paid on, by one hop at least
abbrev pub account_step : ℕ → ℕ → ℕ → Note → Outcome ℕ Note
account_step me n state note =
    let balance = state + note.value in
    let amount = (if note.hops == 0 then 0 else min (balance / 2) (2 ^ 32 - 1)) in
    if nat_lt balance (2 ^ 64) then onward (balance - amount) ((me + 1) % n) amount note.hops
    else onward state ((me + 1) % n) note.value (max note.hops 1)

-- the first balance of each account, and what it does
abbrev pub account_next : Next ℕ Note
account_next = numeric (λ me n. 100 * (me + 1)) account_step

account_sends_allowed : SendsWell account_next
account_sends_allowed me n state note least member = (grind (arith, another_member me n 1), grind arith)

pub account_laws : IsNumeric account_next
account_laws = by_sends account_sends_allowed

-- what the accounts begin with, with what the starts bring
abbrev pub opened : Settings Note → ℕ
opened c = weight_at_first account_next (λ me balance. balance) (λ note. note.value) c

-- no money is made or lost
pub account_conserves : (n : ℕ) → MembersAllowed n → StepConserves account_next n AnyState AnyNote (λ me state. state) (λ note. note.value)
account_conserves n allowed me from state note member any_state any_note = grind (arith, nat_tests)
