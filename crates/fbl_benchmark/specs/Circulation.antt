-- What the benchmark's behaviours do that never end.
use Rattle.std.specs.Prelude.{ℕ, ◌+◌, ◌*◌, ◌%◌}
use Rattle.std.proofs.Common.{zero, suc}
use Rattle.fbl_trace.specs.Steps.{Next, SendsWell, numbered_from_0, relay_step, relay_sends_allowed, modulus}
use Rattle.fbl_trace.specs.Numeric.{IsNumeric, by_sends}
use Rattle.fbl_trace.specs.declared.trace.Note.{Note}
use Rattle.fbl_trace.specs.declared.outcome.Outcome.{Outcome}

-- the step of a relay to which the message comes with two hops: it goes on with one
abbrev pub circulate_step : ℕ → ℕ → ℕ → Note → Outcome ℕ Note
circulate_step me n state note = relay_step me n state (record { value = note.value; hops = 2 })

abbrev pub circulate_next : Next ℕ Note
circulate_next = numbered_from_0 circulate_step

circulate_sends_allowed : SendsWell circulate_next
circulate_sends_allowed me n state note = relay_sends_allowed me n state (record { value = note.value; hops = 2 })

pub circulate_laws : IsNumeric circulate_next
circulate_laws = by_sends circulate_sends_allowed

-- how often a long step mixes its state
abbrev pub rounds : ℕ
rounds = 12000

-- the state mixed so many times
unfoldable pub mixed : ℕ → ℕ → ℕ
mixed zero state = state
mixed (suc count) state = (31 * mixed count state + 1) % modulus

-- the same step with the new state mixed
abbrev pub long_circulate_step : ℕ → ℕ → ℕ → Note → Outcome ℕ Note
long_circulate_step me n state note = let outcome = circulate_step me n state note in record { state = mixed rounds outcome.state; sends = outcome.sends }

abbrev pub long_circulate_next : Next ℕ Note
long_circulate_next = numbered_from_0 long_circulate_step

pub long_circulate_laws : IsNumeric long_circulate_next
long_circulate_laws = by_sends circulate_sends_allowed
