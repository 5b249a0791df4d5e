use Rattle.fbl_trace.proofs.Common.{take, Counted, WellFormed}
use Rattle.fbl_trace.proofs.dump.first_bad_event.Given as goal

abbrev pub invariant-loop-place : goal.invariant-loop-place
invariant-loop-place l = record { counted : Counted (take l.place l.events) l.counts; obeyed : WellFormed l.n (take l.place l.events) }
