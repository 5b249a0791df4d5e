-- That behaviours with numbers for states and with notes as they are specified are behaviours.
use Rattle.std.specs.Prelude.{ℕ, refl}
use Rattle.std.specs.Mem.{FitsInMemory}
use Rattle.std.proofs.Common.{rules}
use denote.Builtin.{u64}
use Rattle.fbl_trace.specs.declared.trace.Note.{Note}
use Rattle.fbl_trace.specs.contracts.trace.Note as note
use Rattle.fbl_trace.specs.contracts.ticket.Room as room
use Rattle.fbl_trace.specs.declared.outcome.Outcome.{Outcome}
use Rattle.fbl_trace.specs.Steps.{IsBehaviour, Next, SendsWell, has_few_hops, numeric}

-- what such a behaviour shows
abbrev pub IsNumeric : Next ℕ Note → Type 0
IsNumeric next = IsBehaviour next has_few_hops (FitsInMemory (room.the_row u64 note.the_row))

-- a step of them fits in memory
pub fits_numeric : FitsInMemory (room.the_row u64 note.the_row)
fits_numeric = search rules

-- so it is enough that their sends are allowed
pub by_sends : {first : ℕ → ℕ → ℕ} {step : ℕ → ℕ → ℕ → Note → Outcome ℕ Note} → SendsWell (numeric first step) → IsNumeric (numeric first step)
by_sends sends = record { sends = sends; starts = refl; fits = fits_numeric }
